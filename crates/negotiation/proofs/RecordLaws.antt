-- Records and their words: what is encoded is decoded again, and what fits a log.
-- Assumes nothing.
use mathlib.Core.List.{List, [], ◌∷◌, ◌++◌, append_assoc}
use mathlib.Core.Path.{◌≡◌, refl, sym, ap}
use Prim.Native.Nat.{ℕ, zero, suc, ◌+◌, ◌*◌, ◌-◌, ◌/◌, ◌%◌, ◌^◌, ◌≤◌, ◌<◌, zero-le}
use native.Mathlib.Nat.{not-suc-le-zero, le_of_suc-le-suc}
use native.Mathlib.Omega.{arith}
use lib.Dec.{leb}
use lib.ListN.{length, length-append}
use lib.Seq.{take-append_seam, drop-append_seam}
use borrow.Author.Tests.{le-leb, lt-leb, leb-true}
use Rattle.price.proofs.TestLaws.{by_test}
use Rattle.negotiation.specs.Records.{Record, words, encode, decode_up_to, decode, fitting, path_nodes}

-- the cost is read back from its two words
pub cost-back : (c : ℕ) → c % 2 ^ 32 + c / 2 ^ 32 * 2 ^ 32 ≡ c
cost-back c = omega arith

-- with as many steps as there are records all are read back
decode_some : (k : ℕ) (rs : List Record) → length rs ≤ k → decode_up_to k (encode rs) ≡ rs
unfolding decode_up_to encode words
decode_some zero [] h = refl
decode_some (suc k) [] h = refl
decode_some zero (r ∷ rs) h = absurd (not-suc-le-zero h)
decode_some (suc k) (r ∷ rs) h =
    rw (
      cost-back r.cost,
      take-append_seam r.path (encode rs),
      drop-append_seam r.path (encode rs),
      decode_some k rs (le_of_suc-le-suc h),
    )

pub words-length : (r : Record) → length (words r) ≡ 6 + length r.path
unfolding words
words-length r = omega arith

-- no record is without words
pub records-few : (rs : List Record) → length rs ≤ length (encode rs)
unfolding encode
records-few [] = zero-le
records-few (r ∷ rs) = omega (arith, length-append (words r) (encode rs), words-length r, records-few rs)

pub decode-encode : (rs : List Record) → decode (encode rs) ≡ rs
unfolding decode
decode-encode rs = decode_some (length (encode rs)) rs (records-few rs)

pub encode-append : (rs ss : List Record) → encode (rs ++ ss) ≡ encode rs ++ encode ss
unfolding encode
encode-append [] ss = refl
encode-append (r ∷ rs) ss = rw (encode-append rs ss) (sym (append_assoc (words r) (encode rs) (encode ss)))

pub path_nodes-append : (rs ss : List Record) → path_nodes (rs ++ ss) ≡ path_nodes rs ++ path_nodes ss
unfolding path_nodes
path_nodes-append [] ss = refl
path_nodes-append (r ∷ rs) ss =
    rw (path_nodes-append rs ss) (sym (append_assoc r.path (path_nodes rs) (path_nodes ss)))

encode-none : length (encode []) ≡ 0
unfolding encode
encode-none = refl

encode-length : (r : Record) (rs : List Record) → length (encode (r ∷ rs)) ≡ length (words r) + length (encode rs)
unfolding encode
encode-length r rs = length-append (words r) (encode rs)

-- where all fit, all are logged
pub fitting-all : (room : ℕ) (rs : List Record) → length (encode rs) ≤ room → fitting room rs ≡ rs
unfolding fitting
fitting-all room [] h = refl
fitting-all room (r ∷ rs) h =
    let long = encode-length r rs in
    rw (le-leb (length (words r)) room (omega arith), fitting-all (room - length (words r)) rs (omega arith))

-- the first record that does not fit ends the log
pub fitting_cut : (room : ℕ) (rs ss : List Record) (r : Record) → length (encode rs) ≤ room → room < length (encode rs) + length (words r) → fitting room (rs ++ (r ∷ ss)) ≡ rs
unfolding fitting
fitting_cut room [] ss r h l =
    let none = encode-none in
    rw (lt-leb (length (words r)) room (omega arith))
fitting_cut room (q ∷ rs) ss r h l =
    let long = encode-length q rs in
    rw (le-leb (length (words q)) room (omega arith), fitting_cut (room - length (words q)) rs ss r (omega arith) (omega arith))

-- what is logged is a beginning
pub fitting-begins : (room : ℕ) (rs : List Record) → (later : List Record) × (rs ≡ fitting room rs ++ later)
unfolding fitting
fitting-begins room [] = ([], refl)
fitting-begins room (r ∷ rs) =
    by_test (leb (length (words r)) room)
    (λ t.
    let rest = fitting-begins (room - length (words r)) rs in
    (rest.0, rw t (ap (λ (l : List Record). r ∷ l) rest.1)))
    (λ t. (r ∷ rs, rw t))

-- it takes no more words than there are
pub fitting-fits : (room : ℕ) (rs : List Record) → length (encode (fitting room rs)) ≤ room
unfolding fitting
fitting-fits room [] = let none = encode-none in omega arith
fitting-fits room (r ∷ rs) =
    by_test (leb (length (words r)) room)
    (λ t.
    let here = leb-true (length (words r)) room t in
    let rest = fitting-fits (room - length (words r)) rs in
    let long = encode-length r (fitting (room - length (words r)) rs) in
    rw t (omega arith))
    (λ t. let none = encode-none in rw t (omega arith))

-- of what fits much room, as much fits less room as of all
pub fitting-less : (low high : ℕ) (rs : List Record) → low ≤ high → fitting low (fitting high rs) ≡ fitting low rs
unfolding fitting
fitting-less low high [] h = refl
fitting-less low high (r ∷ rs) h =
    by_test (leb (length (words r)) low)
    (λ t.
    let here = leb-true (length (words r)) low t in
    rw (le-leb (length (words r)) high (omega arith), t, fitting-less (low - length (words r)) (high - length (words r)) rs (omega arith)))
    (λ t.
    by_test (leb (length (words r)) high)
    (λ u. rw (u, t))
    (λ u. rw (u, t)))

-- later records change nothing of what is logged before them
pub fitting-append : (room : ℕ) (rs ss : List Record) → (later : List Record) × (fitting room (rs ++ ss) ≡ fitting room rs ++ later)
unfolding fitting
fitting-append room [] ss = (fitting room ss, refl)
fitting-append room (r ∷ rs) ss =
    by_test (leb (length (words r)) room)
    (λ t.
    let rest = fitting-append (room - length (words r)) rs ss in
    (rest.0, rw t (ap (λ (l : List Record). r ∷ l) rest.1)))
    (λ t. ([], rw t))

-- where no fewer are logged than there are, all are
pub fitting_whole : (room : ℕ) (rs : List Record) → length rs ≤ length (fitting room rs) → fitting room rs ≡ rs
unfolding fitting
fitting_whole room [] h = refl
fitting_whole room (r ∷ rs) h =
    by_test (leb (length (words r)) room)
    (λ t.
    rw t (ap (λ (l : List Record). r ∷ l) (fitting_whole (room - length (words r)) rs (le_of_suc-le-suc (rw t at h)))))
    (λ t. absurd (not-suc-le-zero (rw t at h)))
