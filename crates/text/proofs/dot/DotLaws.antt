-- The line of a branch in a picture: its length, and its pieces one behind the other.
-- Assumes nothing.
use mathlib.Core.List.{List, ◌++◌}
use mathlib.Core.Path.{◌≡◌}
use Prim.Native.Nat.{ℕ, ◌+◌, ◌≤◌}
use native.Mathlib.Omega.{arith}
use lib.ListN.{length, length-append}
use Rattle.text.specs.Decimal.{decimal}
use Rattle.text.specs.Routes.{branch_of}
use Rattle.text.specs.Dot.{dot_arrow, dot_label, dot_close, dot_line}
use Rattle.text.specs.WriteSteps.{Put}
use Rattle.text.proofs.DecimalLaws.{decimal-length}
use Rattle.text.proofs.PlacedLaws.{put-onward}

pub dot_size : (net from to : ℕ) → length (dot_line (branch_of net from to)) ≡ length (decimal from) + length (decimal to) + length (decimal net) + 17
unfolding dot_line
dot_size net from to = simp length-append (omega arith)

pub dot_most : (net from to : ℕ) → length (dot_line (branch_of net from to)) ≤ 77
dot_most net from to = omega (arith, dot_size net from to, decimal-length from, decimal-length to, decimal-length net)

pub dot_put :
    (net from to : ℕ) {at p₁ p₂ p₃ p₄ p₅ p₆ : ℕ} {b₀ b₁ b₂ b₃ b₄ b₅ b₆ : List ℕ}
    → Put at (decimal from) b₀ b₁ p₁ → Put p₁ dot_arrow b₁ b₂ p₂ → Put p₂ (decimal to) b₂ b₃ p₃ → Put p₃ dot_label b₃ b₄ p₄
    → Put p₄ (decimal net) b₄ b₅ p₅ → Put p₅ dot_close b₅ b₆ p₆ → at + length (dot_line (branch_of net from to)) ≤ length b₀
    → Put at (dot_line (branch_of net from to)) b₀ b₆ p₆
unfolding dot_line
dot_put net from to f₁ f₂ f₃ f₄ f₅ f₆ room =
    put-onward (decimal from) (dot_arrow ++ (decimal to ++ (dot_label ++ (decimal net ++ dot_close)))) f₁ room
    (λ room. put-onward dot_arrow (decimal to ++ (dot_label ++ (decimal net ++ dot_close))) f₂ room
    (λ room. put-onward (decimal to) (dot_label ++ (decimal net ++ dot_close)) f₃ room
    (λ room. put-onward dot_label (decimal net ++ dot_close) f₄ room
    (λ room. put-onward (decimal net) dot_close f₅ room (λ room. f₆)))))
