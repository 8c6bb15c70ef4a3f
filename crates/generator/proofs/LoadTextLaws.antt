-- A load's text: its four parts, one behind the other, and how long they are at most.
-- Assumes nothing.
use Rattle.std.proofs.Common.{◌≡◌, ℕ, ◌+◌, ◌*◌, ◌^◌, ◌<◌, ◌≤◌, Bool, true, ltb, List, [], ◌∷◌, ◌++◌, length, get_or, sym, ap, ◌∙◌, subst, append-nil, arith, length-append, ltb-true, lt-ltb}
use lib.ListN.{get_or-replicate}
use Rattle.price.specs.Lists.{every}
use Rattle.price.proofs.TestLaws.{both_left, both_right}
use Rattle.price.proofs.ListLaws.{get_or_up_to, every-at, every-all}
use Rattle.search.specs.Tables.{row_sound}
use Rattle.job.specs.Job.{Job, source, net_sinks, net_criticalities}
use Rattle.text.specs.Decimal.{decimal}
use Rattle.text.specs.Lines.{letter_f, letter_n, letter_e, letter_s, letter_t, print_fields, print_line}
use Rattle.text.specs.Printed.{concat_from, each_line, sink_lines, node_text, row_text, net_text, line_if, terms_text, print_job}
use Rattle.text.specs.WriteSteps.{Put}
use Rattle.text.specs.LineReplies.{place_reply_of, line_reply}
use Rattle.text.proofs.DecimalLaws.{digits-enough, digits-few, two_size, three_size}
use Rattle.text.proofs.LineReplyLaws.{line-put}
use Rattle.text.proofs.NetTextLaws.{untimed-lines}
use Rattle.text.proofs.JoiningLaws.{concat_alike, concat_size, part_first, part_rest, part-both}
use Rattle.generator.specs.Draws.{state_after}
use Rattle.generator.specs.Load.{load_kind, rows_from, nets_from, load_row, load_rows, load_source, load_sink, load_job, load_text}
use Rattle.generator.specs.Steps.{node_line, row_lines, net_lines}
use Rattle.generator.proofs.NodeLaws.{kind_most_lem}
use Rattle.generator.proofs.RowLaws.{row-few, rows_few}
use Rattle.generator.proofs.LoadLaws.{node-count, net-count, untimed, row_is, row_sound_lem, source_is, sinks_are, source-low, sink-low}

-- ---- the parts

abbrev head_part : ℕ → ℕ → ℕ → List ℕ
head_part n edges count = print_line letter_f (n ∷ edges ∷ count ∷ 100 ∷ [])

abbrev nodes_part : ℕ → ℕ → List ℕ
nodes_part seed n = concat_from (node_line (load_kind seed n)) 0 n

abbrev rows_part : ℕ → ℕ → List ℕ
rows_part first n = concat_from (row_lines first n) 0 n

abbrev nets_part : ℕ → ℕ → ℕ → List ℕ
nets_part first n count = concat_from (net_lines first n) 0 count

module _ (seed n count : ℕ) where
  node_text_lem : (v : ℕ) → v < n → node_text (load_job seed n count) v ≡ node_line (load_kind seed n) v
  unfolding node_text load_job
  node_text_lem v l = rw (get_or_up_to (load_kind seed n) n v 0 l, get_or-replicate {A = ℕ} n v 1 0 l)

  row_text_lem : (v : ℕ) → v < n → row_text (load_job seed n count) v ≡ row_lines (rows_from seed n) n v
  unfolding row_text
  row_text_lem v l = rw (row_is seed n count v l)

  net_text_lem : (i : ℕ) → i < count → net_text (load_job seed n count) i ≡ net_lines (nets_from seed n) n i
  unfolding net_text each_line
  net_text_lem i l =
      let j : Job = load_job seed n count in
      let source-line : List ℕ = print_line letter_s (i ∷ source j i ∷ []) in
      let listed : source-line ++ each_line letter_t i (net_sinks j i) ≡ net_lines (nets_from seed n) n i =
      rw (sinks_are seed n count i l, source_is seed n count i l, append-nil (print_line letter_t (i ∷ load_sink (nets_from seed n) n i ∷ []))) in
      ap (λ (timed : Bool). source-line ++ sink_lines timed i (net_sinks j i) (net_criticalities j i)) (untimed seed n count)
      ∙ ap (λ (lines : List ℕ). source-line ++ lines) (untimed-lines i (net_sinks j i) (net_criticalities j i))
      ∙ listed

  load_parts :
      load_text seed n count
      ≡ head_part n (length (load_rows (rows_from seed n) n n)) count ++ (nodes_part seed n ++ (rows_part (rows_from seed n) n ++ nets_part (nets_from seed n) n count))
  unfolding load_text print_job line_if terms_text load_job
  load_parts =
      let one : concat_from (node_text (load_job seed n count)) 0 n ≡ nodes_part seed n = concat_alike _ _ 0 n (λ v l m. node_text_lem v (omega arith)) in
      let two : concat_from (row_text (load_job seed n count)) 0 n ≡ rows_part (rows_from seed n) n = concat_alike _ _ 0 n (λ v l m. row_text_lem v (omega arith)) in
      let three : concat_from (net_text (load_job seed n count)) 0 count ≡ nets_part (nets_from seed n) n count = concat_alike _ _ 0 count (λ i l m. net_text_lem i (omega arith)) in
      rw (node-count seed n count, net-count seed n count, one, two, three)

-- the parts from the states and the edge count that the code has
load_is :
    (seed n count : ℕ) {rows nets edges : ℕ} → rows ≡ rows_from seed n → nets ≡ state_after rows (3 * n) → edges ≡ length (load_rows rows n n)
    → load_text seed n count ≡ head_part n edges count ++ (nodes_part seed n ++ (rows_part rows n ++ nets_part nets n count))
load_is seed n count {rows} {nets} {edges} r s e =
    load_parts seed n count
    ∙ ap (λ (x : ℕ). head_part n (length (load_rows x n n)) count ++ (nodes_part seed n ++ (rows_part x n ++ nets_part (state_after x (3 * n)) n count))) (sym r)
    ∙ ap (λ (x : ℕ). head_part n (length (load_rows rows n n)) count ++ (nodes_part seed n ++ (rows_part rows n ++ nets_part x n count))) (sym s)
    ∙ ap (λ (x : ℕ). head_part n x count ++ (nodes_part seed n ++ (rows_part rows n ++ nets_part nets n count))) (sym e)

-- ---- the parts one behind the other

module _
    (seed n count : ℕ) {rows nets edges : ℕ} (r : rows ≡ rows_from seed n) (s : nets ≡ state_after rows (3 * n)) (e : edges ≡ length (load_rows rows n n))
    (before : List ℕ) (fits : length (load_text seed n count) ≤ length before) where
  abbrev rest : List ℕ
  rest = nodes_part seed n ++ (rows_part rows n ++ nets_part nets n count)

  room : 0 + length (head_part n edges count ++ rest) ≤ length before
  room = let l = ap length (load_is seed n count r s e) in omega arith

  module _ {b₁ : List ℕ} {p : ℕ} (printed : place_reply_of p b₁ ≡ line_reply 70 (n ∷ edges ∷ count ∷ 100 ∷ []) 0 before) where
    head_put : Put 0 (head_part n edges count) before b₁ p
    head_put = line-put 70 (n ∷ edges ∷ count ∷ 100 ∷ []) printed (part_first 0 (head_part n edges count) rest before room)

    rest_room : p + length rest ≤ length b₁
    rest_room = part_rest (head_part n edges count) rest room head_put

    pub load_nodes-room : p + length (nodes_part seed n) ≤ length b₁
    load_nodes-room = part_first p (nodes_part seed n) (rows_part rows n ++ nets_part nets n count) b₁ rest_room

    module _ {b₂ : List ℕ} {q : ℕ} (one : Put p (nodes_part seed n) b₁ b₂ q) where
      more_room : q + length (rows_part rows n ++ nets_part nets n count) ≤ length b₂
      more_room = part_rest (nodes_part seed n) (rows_part rows n ++ nets_part nets n count) rest_room one

      pub load_rows-room : q + length (rows_part rows n) ≤ length b₂
      load_rows-room = part_first q (rows_part rows n) (nets_part nets n count) b₂ more_room

      module _ {b₃ : List ℕ} {t : ℕ} (two : Put q (rows_part rows n) b₂ b₃ t) where
        pub load_nets-room : t + length (nets_part nets n count) ≤ length b₃
        load_nets-room = part_rest (rows_part rows n) (nets_part nets n count) more_room two

        pub load_put : {b₄ : List ℕ} {u : ℕ} → Put t (nets_part nets n count) b₃ b₄ u → Put 0 (load_text seed n count) before b₄ u
        load_put {b₄} {u} three =
            subst (λ (xs : List ℕ). Put 0 xs before b₄ u) (sym (load_is seed n count r s e))
            (part-both (head_part n edges count) rest room head_put
            (part-both (nodes_part seed n) (rows_part rows n ++ nets_part nets n count) rest_room one
            (part-both (rows_part rows n) (nets_part nets n count) more_room two three)))

-- ---- sizes

-- a number below a power of ten has no more digits than that
digits-most : (k n : ℕ) → 1 ≤ k → n < 10 ^ k → n < 10 ^ 20 → length (decimal n) ≤ k
unfolding decimal
digits-most k n some low small = rw (digits-enough 20 k n small low (omega arith) some) (digits-few k n)

one_digit : (n : ℕ) → n < 10 → length (decimal n) ≤ 1
one_digit n l = digits-most 1 n (omega arith) (omega arith) (omega arith)

two_digits : (n : ℕ) → n < 100 → length (decimal n) ≤ 2
two_digits n l = digits-most 2 n (omega arith) (omega arith) (omega arith)

three_digits : (n : ℕ) → n < 1000 → length (decimal n) ≤ 3
three_digits n l = digits-most 3 n (omega arith) (omega arith) (omega arith)

four_size : (letter a b c d : ℕ) → length (print_line letter (a ∷ b ∷ c ∷ d ∷ [])) ≡ length (decimal a) + length (decimal b) + length (decimal c) + length (decimal d) + 6
unfolding print_line print_fields
four_size letter a b c d = simp length-append (omega arith)

each_size : (letter i : ℕ) (xs : List ℕ) → i < 1000 → every (λ x. ltb x 1000) xs ≡ true → length (each_line letter i xs) ≤ 10 * length xs
unfolding each_line every
each_size letter i [] l h = omega arith
each_size letter i (x ∷ xs) l h =
    let low : x < 1000 = ltb-true x 1000 (both_left (ltb x 1000) _ h) in
    rw (length-append (print_line letter (i ∷ x ∷ [])) (each_line letter i xs))
    (omega (arith, each_size letter i xs l (both_right (ltb x 1000) _ h), two_size letter i x, three_digits i l, three_digits x low))

module _ (seed n count : ℕ) (least : 8 ≤ n) (most : n ≤ 256) (some : 1 ≤ count) (few : count ≤ 64) where
  node_size : (v : ℕ) → v < n → length (node_line (load_kind seed n) v) ≤ 11
  node_size v l =
      let k = kind_most_lem seed n v in
      omega (arith, three_size letter_n v (load_kind seed n v) 1, three_digits v (omega arith), two_digits (load_kind seed n v) (omega arith), one_digit 1 (omega arith))

  targets-low : (v : ℕ) → every (λ x. ltb x 1000) (load_row (rows_from seed n) n v) ≡ true
  unfolding row_sound
  targets-low v =
      let all = both_left (every _ (load_row (rows_from seed n) n v)) _ (row_sound_lem (rows_from seed n) n v) in
      every-all (λ x. ltb x 1000) (load_row (rows_from seed n) n v)
      (λ i l.
      let x : ℕ = get_or (load_row (rows_from seed n) n v) i 0 in
      let low : x < n = ltb-true x n (both_left (ltb x n) _ (every-at _ (load_row (rows_from seed n) n v) all i l)) in
      lt-ltb x 1000 (omega arith))

  row_size : (v : ℕ) → v < n → length (row_lines (rows_from seed n) n v) ≤ 30
  row_size v l = omega (arith, each_size letter_e v (load_row (rows_from seed n) n v) (omega arith) (targets-low v), row-few (rows_from seed n) n v)

  net_size : (i : ℕ) → i < count → length (net_lines (nets_from seed n) n i) ≤ 18
  net_size i l =
      let from : ℕ = load_source (nets_from seed n) n i in
      let to : ℕ = load_sink (nets_from seed n) n i in
      let low = source-low seed n count least most some few i in
      let high = sink-low seed n count least most some few i in
      rw (length-append (print_line letter_s (i ∷ from ∷ [])) (print_line letter_t (i ∷ to ∷ [])))
      (omega (arith, two_size letter_s i from, two_size letter_t i to, two_digits i (omega arith), three_digits from (omega arith), three_digits to (omega arith)))

  -- the longest text has 11,665 bytes
  pub load_size : length (load_text seed n count) ≤ 11665
  load_size =
      let edges : ℕ = length (load_rows (rows_from seed n) n n) in
      let fewer = rows_few (rows_from seed n) n n in
      let head = four_size letter_f n edges count 100 in
      let a = three_digits n (omega arith) in
      let b = three_digits edges (omega arith) in
      let c = two_digits count (omega arith) in
      let d = three_digits 100 (omega arith) in
      let nodes = concat_size (node_line (load_kind seed n)) 11 0 n (λ v l. node_size v (omega arith)) in
      let rows = concat_size (row_lines (rows_from seed n) n) 30 0 n (λ v l. row_size v (omega arith)) in
      let nets = concat_size (net_lines (nets_from seed n) n) 18 0 count (λ i l. net_size i (omega arith)) in
      rw (
        load_parts seed n count,
        length-append (head_part n edges count) (nodes_part seed n ++ (rows_part (rows_from seed n) n ++ nets_part (nets_from seed n) n count)),
        length-append (nodes_part seed n) (rows_part (rows_from seed n) n ++ nets_part (nets_from seed n) n count),
        length-append (rows_part (rows_from seed n) n) (nets_part (nets_from seed n) n count),
      )
      (omega arith)
