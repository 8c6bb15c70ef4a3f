-- The lines of all nodes are those of the first quarter, of the wires and of the last quarter.
-- Assumes nothing.
use Rattle.std.proofs.Common.{◌≡◌, ℕ, ◌+◌, ◌-◌, ◌<◌, ◌≤◌, List, ◌++◌, length, sym, ap, ◌∙◌, subst, ⊎_elim, arith, le-ltb, lt-ltb, le-leb}
use borrow.Author.Tests.{lt-leb}
use Rattle.price.proofs.TestLaws.{le_or_lt}
use Rattle.text.specs.Printed.{concat_from}
use Rattle.text.specs.WriteSteps.{Put}
use Rattle.generator.specs.Load.{quarter, load_kind}
use Rattle.generator.specs.Steps.{node_line, wire_kind}
use Rattle.generator.proofs.DrawLaws.{draw_below}
use Rattle.text.proofs.JoiningLaws.{concat-append, concat_alike, part_first, part_rest, part-both}

module _ (seed n : ℕ) where
  pub kind_source : (v : ℕ) → v < quarter n → load_kind seed n v ≡ 0
  unfolding load_kind
  kind_source v l = rw (lt-ltb v (quarter n) l)

  pub kind_wire : (v : ℕ) → quarter n ≤ v → v < n - quarter n → load_kind seed n v ≡ wire_kind seed (quarter n) v
  unfolding load_kind
  kind_wire v low high = rw (le-ltb v (quarter n) low, lt-leb (n - quarter n) v high)

  pub kind_sink : (v : ℕ) → n - quarter n ≤ v → load_kind seed n v ≡ 1
  unfolding load_kind
  kind_sink v l =
      let low : quarter n ≤ v = omega arith in
      rw (le-ltb v (quarter n) low, le-leb (n - quarter n) v l)

  pub kind_most_lem : (v : ℕ) → load_kind seed n v ≤ 15
  kind_most_lem v =
      ⊎_elim
      (λ (high : n - quarter n ≤ v). rw (kind_sink v high) (omega arith))
      (λ (low : v < n - quarter n).
      ⊎_elim
      (λ (wire : quarter n ≤ v). rw (kind_wire v wire low) (omega (arith, draw_below seed (v - quarter n) 12 (omega arith))))
      (λ (pin : v < quarter n). rw (kind_source v pin) (omega arith))
      (le_or_lt (quarter n) v))
      (le_or_lt (n - quarter n) v)

  abbrev whole : List ℕ
  whole = concat_from (node_line (load_kind seed n)) 0 n

  abbrev sources : List ℕ
  sources = concat_from (node_line (λ v. 0)) 0 (quarter n - 0)

  abbrev wired : List ℕ
  wired = concat_from (node_line (wire_kind seed (quarter n))) (quarter n) (n - quarter n - quarter n)

  abbrev sinks : List ℕ
  sinks = concat_from (node_line (λ v. 1)) (n - quarter n) (n - (n - quarter n))

  nodes_parts : whole ≡ sources ++ (wired ++ sinks)
  nodes_parts =
      let f : ℕ → List ℕ = node_line (load_kind seed n) in
      let a : ℕ = quarter n - 0 in
      let b : ℕ = n - quarter n - quarter n in
      let c : ℕ = n - (n - quarter n) in
      let count : n ≡ a + (b + c) = omega arith in
      let at-wires : 0 + a ≡ quarter n = omega arith in
      let at-sinks : quarter n + b ≡ n - quarter n = omega arith in
      let one : concat_from f 0 a ≡ sources = concat_alike f (node_line (λ v. 0)) 0 a (λ v l m. rw (kind_source v (omega arith))) in
      let two : concat_from f (quarter n) b ≡ wired = concat_alike f (node_line (wire_kind seed (quarter n))) (quarter n) b (λ v l m. rw (kind_wire v l (omega arith))) in
      let three : concat_from f (n - quarter n) c ≡ sinks = concat_alike f (node_line (λ v. 1)) (n - quarter n) c (λ v l m. rw (kind_sink v l)) in
      ap (concat_from f 0) count ∙ concat-append f 0 a (b + c)
      ∙ ap (λ (k : ℕ). concat_from f 0 a ++ concat_from f k (b + c)) at-wires
      ∙ ap (λ (xs : List ℕ). concat_from f 0 a ++ xs) (concat-append f (quarter n) b c ∙ ap (λ (k : ℕ). concat_from f (quarter n) b ++ concat_from f k c) at-sinks)
      ∙ rw (one, two, three)

  module _ (start : ℕ) (before : List ℕ) (fits : start + length whole ≤ length before) where
    room : start + length (sources ++ (wired ++ sinks)) ≤ length before
    room = subst (λ (xs : List ℕ). start + length xs ≤ length before) nodes_parts fits

    pub sources-room : start + length sources ≤ length before
    sources-room = part_first start sources (wired ++ sinks) before room

    module _ {b₁ : List ℕ} {p : ℕ} (one : Put start sources before b₁ p) where
      rest_room : p + length (wired ++ sinks) ≤ length b₁
      rest_room = part_rest sources (wired ++ sinks) room one

      pub wires-room : p + length wired ≤ length b₁
      wires-room = part_first p wired sinks b₁ rest_room

      module _ {b₂ : List ℕ} {q : ℕ} (two : Put p wired b₁ b₂ q) where
        pub sinks-room : q + length sinks ≤ length b₂
        sinks-room = part_rest wired sinks rest_room two

        pub nodes-put : {b₃ : List ℕ} {r : ℕ} → Put q sinks b₂ b₃ r → Put start whole before b₃ r
        nodes-put {b₃} {r} three =
            subst (λ (xs : List ℕ). Put start xs before b₃ r) (sym nodes_parts)
            (part-both sources (wired ++ sinks) room one (part-both wired sinks rest_room two three))
