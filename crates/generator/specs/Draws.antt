-- Request 2.12, "A load anyone can make again": the generator's state and its draws.
-- Assumes nothing.
use Rattle.std.specs.Prelude.{ℕ, zero, suc, ◌+◌, ◌*◌, ◌/◌, ◌%◌, ◌^◌}

-- "The state steps to 1664525 × state + 1013904223, keeping 32 bits"
unfoldable pub stepped : ℕ → ℕ
stepped state = (1664525 * state + 1013904223) % 2 ^ 32

-- the state after this many steps
unfoldable pub state_after : ℕ → ℕ → ℕ
state_after first zero = first
state_after first (suc k) = stepped (state_after first k)

-- "a draw of m steps it, divides it by 65,536 and takes the remainder by m": after this many earlier draws
unfoldable pub draw_at : ℕ → ℕ → ℕ → ℕ
draw_at first k m = state_after first (suc k) / 65536 % m
