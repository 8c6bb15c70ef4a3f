-- The state and its draws: a step goes on, and what is drawn from a stepped state is the next draw.
-- Assumes nothing.
use Rattle.std.proofs.Common.{◌≡◌, ℕ, ◌+◌, ◌-◌, ◌*◌, ◌/◌, ◌%◌, ◌^◌, ◌<◌, ◌≤◌, refl, ap, ◌∙◌, mod-lt, mul-le-mul, add-one, arith}
use Rattle.generator.specs.Draws.{stepped, state_after, draw_at}
use Rattle.generator.specs.Load.{quarter, row_draw, load_source, load_sink}
use Rattle.generator.specs.Steps.{wire_kind}

-- two numbers of 32 bits have a product of 64
pub wide : (a b : ℕ) → a < 2 ^ 32 → b < 2 ^ 32 → a * b < 2 ^ 64
wide a b ha hb =
    let la : a ≤ 4294967295 = omega arith in
    let lb : b ≤ 4294967295 = omega arith in
    let most : a * b ≤ 4294967295 * 4294967295 = mul-le-mul la lb in
    omega arith

pub state-none : (first : ℕ) → first ≡ state_after first 0
unfolding state_after
state-none first = refl

-- at the first of some nodes nothing is drawn yet
pub state-start : (first from : ℕ) → first ≡ state_after first (from - from)
state-start first from = let none : 0 ≡ from - from = omega arith in state-none first ∙ ap (state_after first) none

pub state-next : (first k : ℕ) {state next : ℕ} → state ≡ state_after first k → next ≡ stepped state → next ≡ state_after first (k + 1)
unfolding state_after
state-next first k e s = s ∙ ap stepped e ∙ rw add-one

-- the draw for which the state was stepped
pub draw_is : (first k m : ℕ) {state drawn : ℕ} → state ≡ state_after first (k + 1) → drawn ≡ state / 65536 % m → drawn ≡ draw_at first k m
unfolding draw_at
draw_is first k m e d = d ∙ ap (λ (x : ℕ). x / 65536 % m) (e ∙ rw add-one)

pub drawn-small : (state m : ℕ) {drawn : ℕ} → 1 ≤ m → drawn ≡ state / 65536 % m → drawn < m
drawn-small state m some d = rw d (mod-lt (state / 65536) some)

pub draw_below : (first k m : ℕ) → 0 < m → draw_at first k m < m
unfolding draw_at
draw_below first k m h = mod-lt _ h

-- ---- the draw of a wire

pub record WireDrawn (first from v state kind : ℕ) : Type 0 where
  pub on : state ≡ state_after first (v + 1 - from)
  pub kind_is : kind ≡ wire_kind first from v

pub wire-drawn :
    (first from v : ℕ) {state next drawn : ℕ} → from ≤ v → state ≡ state_after first (v - from) → next ≡ stepped state → drawn ≡ next / 65536 % 12
    → WireDrawn first from v next (4 + drawn)
wire-drawn first from v low e s d =
    let next-is = state-next first (v - from) e s in
    let k : v - from + 1 ≡ v + 1 - from = omega arith in
    record { on = next-is ∙ ap (state_after first) k; kind_is = ap (λ (x : ℕ). 4 + x) (draw_is first (v - from) 12 next-is d) }

-- ---- the draws of a node

pub record RowDrawn (first n v state a b c : ℕ) : Type 0 where
  pub on : state ≡ state_after first (3 * (v + 1))
  pub a_is : a ≡ row_draw first n v 0
  pub b_is : b ≡ row_draw first n v 1
  pub c_is : c ≡ row_draw first n v 2

pub row-drawn :
    (first n v : ℕ) {state one two three a b c : ℕ} → state ≡ state_after first (3 * v) → one ≡ stepped state → two ≡ stepped one → three ≡ stepped two
    → a ≡ one / 65536 % n → b ≡ two / 65536 % n → c ≡ three / 65536 % n → RowDrawn first n v three a b c
unfolding row_draw
row-drawn first n v e s1 s2 s3 da db dc =
    let e1 = state-next first (3 * v) e s1 in
    let e2 = state-next first (3 * v + 1) e1 s2 in
    let e3 = state-next first (3 * v + 1 + 1) e2 s3 in
    let k0 : 3 * v ≡ 3 * v + 0 = omega arith in
    let k2 : 3 * v + 1 + 1 ≡ 3 * v + 2 = omega arith in
    let k3 : 3 * v + 1 + 1 + 1 ≡ 3 * (v + 1) = omega arith in
    record {
      on = e3 ∙ ap (state_after first) k3;
      a_is = draw_is first (3 * v) n e1 da ∙ ap (λ (k : ℕ). draw_at first k n) k0;
      b_is = draw_is first (3 * v + 1) n e2 db;
      c_is = draw_is first (3 * v + 1 + 1) n e3 dc ∙ ap (λ (k : ℕ). draw_at first k n) k2;
    }

-- ---- the draws of a net

pub record NetDrawn (first n i state source sink : ℕ) : Type 0 where
  pub on : state ≡ state_after first (2 * (i + 1))
  pub source_is : source ≡ load_source first n i
  pub sink-is : sink ≡ load_sink first n i

pub net-drawn :
    (first n i : ℕ) {state one two a b sink : ℕ} → state ≡ state_after first (2 * i) → one ≡ stepped state → two ≡ stepped one
    → a ≡ one / 65536 % quarter n → b ≡ two / 65536 % quarter n → sink ≡ n - quarter n + b → NetDrawn first n i two a sink
unfolding load_source load_sink
net-drawn first n i {sink = sink} e s1 s2 da db ds =
    let e1 = state-next first (2 * i) e s1 in
    let e2 = state-next first (2 * i + 1) e1 s2 in
    let k2 : 2 * i + 1 + 1 ≡ 2 * (i + 1) = omega arith in
    record {
      on = e2 ∙ ap (state_after first) k2;
      source_is = draw_is first (2 * i) (quarter n) e1 da;
      sink-is = ds ∙ ap (λ (x : ℕ). n - quarter n + x) (draw_is first (2 * i + 1) (quarter n) e2 db);
    }
