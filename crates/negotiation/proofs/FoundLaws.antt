-- What either search answers for a turn where nothing is refused: the turn, as `found_path` passes it on with how many nodes it expanded, and what it costs, as
-- `least_cost` does.
-- Assumes nothing.
use mathlib.Core.Bool.{Bool, true, false, not}
use mathlib.Core.List.{List, [], ◌∷◌, ◌++◌}
use mathlib.Core.Path.{◌≡◌, refl, sym, ◌∙◌, ap, subst}
use Prim.Native.Nat.{ℕ, ◌+◌, ◌*◌, ◌-◌, ◌≤◌, ◌<◌}
use native.Mathlib.Nat.{le_refl}
use native.Mathlib.Omega.{arith}
use lib.Dec.{eqb}
use lib.ListN.{length, get_or, take, drop, replicate, length-append, length-drop, length-replicate}
use lib.Seq.{get_or-append-add, get_or-drop, take_at}
use borrow.Author.Tests.{le-ltb}
use Rattle.price.specs.Bounds.{factor_most, criticality_most, timed_nodes_most}
use Rattle.price.specs.Test.{both}
use Rattle.price.proofs.TestLaws.{by_test}
use Rattle.price.proofs.BelowLaws.{count_most_lem as count-below}
use Rattle.search.specs.Block as block
use Rattle.search.specs.Block.{Block, graph_of}
use Rattle.search.specs.Tables.{delays_sound}
use Rattle.search.specs.Paths.{Fair}
use Rattle.search.specs.Turn.{Congestion, price_at, Turn, joins, stuck, nearest_distance, turn}
use Rattle.search.specs.Replies.{cleared, refusal_of, too_many, bad_criticality, sink_list_sound, faulty_with_delays, faulty_with_sinks, PathReply, turn_numbers, turn_path, read_off, path_due, path_reply, path_reply_of}
use Rattle.search.specs.Distance.{far}
use Rattle.search.specs.Aimed.{weight_at, expands, expanded, expanded_by}
use Rattle.search.specs.AimedReplies.{AimedPathReply, aimed_path_reply, aimed_path_reply_of}
use Rattle.std.specs.Prelude.{Option, Some, None, Result, Ok, Err}
use Rattle.search.specs.Block.{back_in}
use Rattle.search.specs.declared.Back.{Back}
use Rattle.search.specs.declared.Joins.{Joins}
use Rattle.search.specs.declared.AimedTurn.{AimedTurn}
use Rattle.search.specs.declared.Refusal.{Refusal}
use Rattle.search.specs.declared.Refusal.TheVariants.{BadTable, ShortWork, BadNumber, TooLarge}
use Rattle.search.proofs.BlockLaws.{faulty_of}
use Rattle.search.proofs.PriceableLaws.{bad_nowhere, sinks-nodes, ready-fair}
use Rattle.search.proofs.EdgeLaws.{Shaped, shaped}
use Rattle.search.proofs.PathToLaws.{path-short, path_nodes_lem}
use Rattle.search.proofs.TurnLaws.{joins-within, joins-path, joins-near}
use Rattle.search.proofs.PathReplyLaws.{path-turn}
use Rattle.search.proofs.AimedReplyLaws.{aimed_sound}
use Rattle.job.specs.Steps.{AllBelow}
use Rattle.negotiation.specs.ResumeSteps.{least_asked}
use Rattle.negotiation.specs.Steps.{SameFrom, TurnReady, PathFound, turn_count, BackLent}

-- ---- the work slice afterwards

-- an entry past the first of two lists
get_d_past : (xs ys : List ℕ) (k : ℕ) → length xs ≤ k → get_or (xs ++ ys) k 0 ≡ get_or ys (k - length xs) 0
get_d_past xs ys k l =
    let e : length xs + (k - length xs) ≡ k = omega arith in
    subst (λ (j : ℕ). get_or (xs ++ ys) j 0 ≡ get_or ys (k - length xs) 0) e (get_or-append-add xs ys (k - length xs) 0)

-- a path, and 0 up to an entry
abbrev padded : ℕ → List ℕ → List ℕ → List ℕ
padded k path work = path ++ (replicate (k - length path) 0 ++ drop k work)

-- the rest stays
padded_rest : (n k : ℕ) (path work : List ℕ) → length path ≤ k → k ≤ 8 * n → 8 * n ≤ length work → SameFrom (8 * n) work (padded k path work)
padded_rest n k path work s most l =
    let zeros : List ℕ = replicate (k - length path) 0 in
    let zeros_long : length zeros ≡ k - length path = length-replicate (k - length path) 0 in
    record {
      long = omega (arith, length-append path (zeros ++ drop k work), length-append zeros (drop k work), length-drop k work);
      high = λ i h.
          let place : k + (i - length path - length zeros) ≡ i = omega arith in
          get_d_past path (zeros ++ drop k work) i (omega arith) ∙ get_d_past zeros (drop k work) (i - length path) (omega arith) ∙ get_or-drop k work (i - length path - length zeros) 0 ∙ ap (λ (j : ℕ). get_or work j 0) place;
    }

-- ---- a turn's answer

-- the numbers of a turn, and a work slice that begins with its path
module _ (n k : ℕ) (work : List ℕ) (most : k ≤ 8 * n) (enough : 8 * n ≤ length work) where
  abbrev padded_reply : Turn → PathReply
  padded_reply t = record { refusal = []; joined = turn_numbers t; work = padded k (turn_path t) work }

  -- a refusal is no turn
  no_turn : {A : Type 0} {a : ℕ} {rest : List ℕ} {x : PathReply} (t : Turn) → x.refusal ≡ a ∷ rest → x ≡ padded_reply t → A
  no_turn {a = a} {rest} t p e =
      let q : [] ≡ a ∷ rest = sym (ap (λ (x : PathReply). x.refusal) e) ∙ p in
      let z : ◌≡◌ {A = ℕ} 0 1 = cc in
      absurd (omega arith)

  found-is : (r : Option Joins) (t : Turn) {work' : List ℕ} → length (turn_path t) ≤ k → path_reply_of (Ok r) work' ≡ padded_reply t → PathFound n t work r work'
  found-is (Some j) (joins p c path) {work'} short e =
      let numbers : (j.place ∷ j.cost ∷ j.length ∷ []) ≡ (p ∷ c ∷ length path ∷ []) = ap (λ (x : PathReply). x.joined) e in
      let place_is : j.place ≡ p = cc in
      let cost_is_lem : j.cost ≡ c = cc in
      let count-is : j.length ≡ length path = cc in
      let left : work' ≡ padded k path work = ap (λ (x : PathReply). x.work) e in
      let front : take j.length work' ≡ path = rw left (take_at path (replicate (k - length path) 0 ++ drop k work) j.length (sym count-is)) in
      (rw (front, place_is, cost_is_lem), rw front (sym count-is), rw left (padded_rest n k path work short most enough))
  found-is (Some j) stuck short e =
      let numbers : (j.place ∷ j.cost ∷ j.length ∷ []) ≡ [] = ap (λ (x : PathReply). x.joined) e in
      let z : ◌≡◌ {A = ℕ} 0 1 = cc in
      absurd (omega arith)
  found-is None (joins p c path) short e =
      let numbers : [] ≡ (p ∷ c ∷ length path ∷ []) = ap (λ (x : PathReply). x.joined) e in
      let z : ◌≡◌ {A = ℕ} 0 1 = cc in
      absurd (omega arith)
  found-is None stuck {work'} short e =
      let left : work' ≡ padded k [] work = ap (λ (x : PathReply). x.work) e in
      (refl, rw left (padded_rest n k [] work short most enough))

  -- nothing is refused
  refused-is : (e : Refusal) (t : Turn) {work' : List ℕ} → path_reply_of (Err e) work' ≡ padded_reply t → ⊥
  refused-is (BadTable table) t e = no_turn t refl e
  refused-is (ShortWork needed) t e = no_turn t refl e
  refused-is (BadNumber place) t e = no_turn t refl e
  refused-is (TooLarge count) t e = no_turn t refl e

-- ---- where nothing is refused

-- how many nodes a turn expands: no more than there are
pub count_most_lem : (aimed : Bool) (b : Block) (c : Congestion) (marks sinks : List ℕ) → turn_count aimed b c marks sinks ≤ block.nodes b
unfolding expanded_by
count_most_lem aimed b c marks sinks =
    let none : Bool = eqb (nearest_distance b (price_at b c) marks sinks) far in
    by_test aimed
    (λ q.
    by_test none
    (λ e. rw (q, e) (omega arith))
    (λ e. rw (q, e) (count-below (expands b (price_at b c) (weight_at b c.weighting) marks sinks) (block.nodes b))))
    (λ q. rw q (omega arith))

module _ {b : Block} {c : Congestion} {marks work : List ℕ} (ready : TurnReady b c marks work) where
  -- every price is fair
  turn-fair : Fair b (price_at b c)
  unfolding price_at
  turn-fair =
      let f =
      ready-fair b.kinds b.capacities b.first_edges b.edge_targets c marks
      (record {
        kinds_sound_lem = ready.sound.kinds_sound_lem;
        capacities_sound_lem = ready.sound.capacities_sound_lem;
        nodes-sound = ready.numbers;
        factor_most_lem = ready.factor_most_lem;
        weighable = ready.weighable;
      }) in
      record { ceiling = f.ceiling; low = f.low; fits = f.fits; pos = f.pos; most = f.most }

  -- a timed turn has few enough nodes, a criticality within its bound and sound delays
  many : too_many c.weighting (block.nodes b) ≡ false
  many =
      by_test c.weighting.timed
      (λ t. rw (t, le-ltb timed_nodes_most (block.nodes b) (ready.weighable t).few))
      (λ t. rw t)

  critical : bad_criticality c.weighting ≡ false
  critical =
      by_test c.weighting.timed
      (λ t. rw (t, le-ltb criticality_most c.weighting.criticality (ready.weighable t).criticality_most_lem))
      (λ t. rw t)

  delayed : both c.weighting.timed (not (delays_sound (block.nodes b) c.delays)) ≡ false
  delayed =
      by_test c.weighting.timed
      (λ t. rw (t, (ready.weighable t).delays_sound_lem))
      (λ t. rw t)

  module _ (sinks : List ℕ) (listed : sink_list_sound (block.nodes b) sinks ≡ true) where
    abbrev made : Turn
    made = turn b (price_at b c) marks sinks

    -- a sink of the list is joined, by nodes, none of them twice
    pub joined-path :
        {place cost : ℕ} {path : List ℕ} → made ≡ joins place cost path → (place < length sinks) × (length path ≤ block.nodes b) × AllBelow (block.nodes b) path
    joined-path {place} {cost} {path} e =
        let price = price_at b c in
        let graph : Shaped b = shaped b ready.sound in
        let all-nodes = sinks-nodes (block.nodes b) sinks listed in
        let within : place < length sinks = joins-within b price marks graph turn-fair sinks all-nodes place cost path e in
        let near = joins-near b price marks graph turn-fair sinks all-nodes place cost path e in
        let found = joins-path b price marks graph turn-fair sinks all-nodes place cost path e in
        let node : get_or sinks place 0 < block.nodes b = all-nodes place within in
        let short : length path ≤ block.nodes b = rw found (path-short b price marks graph turn-fair (get_or sinks place 0) node near) in
        let below : AllBelow (block.nodes b) path = rw found (path_nodes_lem b price marks graph turn-fair (get_or sinks place 0) node near) in
        (within, short, below)

    turn-short : length (turn_path made) ≤ block.nodes b
    turn-short = go made refl
      where
        go : (t : Turn) → made ≡ t → length (turn_path t) ≤ block.nodes b
        go (joins place cost path) e = (joined-path e).1
        go stuck e = omega arith

    -- nothing is due
    nothing_due : path_due b c marks sinks work ≡ []
    unfolding refusal_of faulty_with_sinks faulty_with_delays
    nothing_due =
        let n : ℕ = block.nodes b in
        rw (
          faulty_of b ready.sound,
          listed,
          delayed,
          many,
          le-ltb (length work) (8 * n) ready.enough,
          bad_nowhere n c marks n ready.numbers refl,
          le-ltb n n (le_refl n),
          le-ltb factor_most c.factor ready.factor_most_lem,
          critical,
        )

    -- the turn as a reply, by the entries that the search uses
    abbrev turn_reply : ℕ → PathReply
    turn_reply k = record { refusal = []; joined = turn_numbers made; work = padded k (turn_path made) work }

    -- the plain search's answer is the turn, and no nodes are counted
    plain_is : (r : Result (Option Joins) Refusal) {work' : List ℕ} → path_reply_of r work' ≡ path_reply b c marks sinks work → path_reply_of r work' ≡ turn_reply (3 * block.nodes b)
    unfolding read_off
    plain_is r e = e ∙ path-turn b c marks sinks work ready.sound listed ready.enough ready.numbers ready.factor_most_lem ready.weighable

    pub plain_found :
        {aimed : Bool} → aimed ≡ false → {r : Result (Option Joins) Refusal} {found : Option Joins} → r ≡ Ok found → {work' : List ℕ}
        → path_reply_of r work' ≡ path_reply b c marks sinks work → PathFound (block.nodes b) made work found work' × (0 ≡ turn_count aimed b c marks sinks)
    plain_found chosen {r} {found} is {work'} e =
        let s = turn-short in (
          found-is (block.nodes b) (3 * block.nodes b) work (omega arith) ready.enough found made (omega arith)
              (subst (λ (x : Result (Option Joins) Refusal). path_reply_of x work' ≡ turn_reply (3 * block.nodes b)) is (plain_is r e)),
          rw chosen,
        )

    pub plain_never : {r : Result (Option Joins) Refusal} {refusal : Refusal} → r ≡ Err refusal → {work' : List ℕ} → path_reply_of r work' ≡ path_reply b c marks sinks work → ⊥
    plain_never {r} {refusal} is {work'} e =
        refused-is (block.nodes b) (3 * block.nodes b) work (omega arith) ready.enough refusal made
        (subst (λ (x : Result (Option Joins) Refusal). path_reply_of x work' ≡ turn_reply (3 * block.nodes b)) is (plain_is r e))

    -- the other's is the same turn, with the nodes that it expanded, where it is lent the edges by their target
    module _ {aimed : Bool} (back : Back) (chosen : aimed ≡ true) (lent : BackLent aimed b back) where
      aimed_is : (r : Result AimedTurn Refusal) {work' : List ℕ} → aimed_path_reply_of r work' ≡ aimed_path_reply b (back_in b.kinds back) c marks sinks work
          → aimed_path_reply_of r work' ≡ record { path = turn_reply (8 * block.nodes b); expanded = expanded b (price_at b c) (weight_at b c.weighting) marks sinks }
      unfolding cleared
      aimed_is r e =
          e ∙ aimed_sound b.kinds b.capacities b.first_edges b.edge_targets back.first_back.now back.back_source.now (lent chosen) c marks sinks work nothing_due

      pub aimed_found :
          {r : Result AimedTurn Refusal} {found : AimedTurn} → r ≡ Ok found → {work' : List ℕ}
          → aimed_path_reply_of r work' ≡ aimed_path_reply b (back_in b.kinds back) c marks sinks work
          → PathFound (block.nodes b) made work found.joins work' × (found.expanded ≡ turn_count aimed b c marks sinks)
      aimed_found {r} {found} at {work'} e =
          let s = turn-short in
          let is = subst (λ (x : Result AimedTurn Refusal). aimed_path_reply_of x work' ≡ record { path = turn_reply (8 * block.nodes b); expanded = expanded b (price_at b c) (weight_at b c.weighting) marks sinks }) at (aimed_is r e) in (
            found-is (block.nodes b) (8 * block.nodes b) work (omega arith) ready.enough found.joins made (omega arith) (ap (λ (x : AimedPathReply). x.path) is),
            rw chosen (ap (λ (x : AimedPathReply). x.expanded) is),
          )

      pub aimed_never :
          {r : Result AimedTurn Refusal} {refusal : Refusal} → r ≡ Err refusal → {work' : List ℕ}
          → aimed_path_reply_of r work' ≡ aimed_path_reply b (back_in b.kinds back) c marks sinks work → ⊥
      aimed_never {r} {refusal} at {work'} e =
          refused-is (block.nodes b) (8 * block.nodes b) work (omega arith) ready.enough refusal made
          (ap (λ (x : AimedPathReply). x.path)
          (subst (λ (x : Result AimedTurn Refusal). aimed_path_reply_of x work' ≡ record { path = turn_reply (8 * block.nodes b); expanded = expanded b (price_at b c) (weight_at b c.weighting) marks sinks }) at (aimed_is r e)))

-- ---- what it costs

-- none is asked for
pub least_unasked : {asked : Bool} (n : ℕ) (t : Turn) (work : List ℕ) → asked ≡ false → (far ≡ least_asked asked t) × SameFrom (8 * n) work work
unfolding least_asked
least_unasked n t work e = (rw e, record { long = refl; high = λ k l. refl })

module _ {asked : Bool} (e : asked ≡ true) (n : ℕ) (t : Turn) (work work' : List ℕ) {found : Option Joins} (f : PathFound n t work found work') where
  -- a sink is joined
  pub least-joined : {j : Joins} → found ≡ Some j → (j.cost ≡ least_asked asked t) × SameFrom (8 * n) work work'
  unfolding least_asked
  least-joined {j} is =
      let g : PathFound n t work (Some j) work' = subst (λ (x : Option Joins). PathFound n t work x work') is f in
      (rw (e, g.0), g.2)

  -- or none is left to be joined
  pub least-stuck : found ≡ None → (far ≡ least_asked asked t) × SameFrom (8 * n) work work'
  unfolding least_asked
  least-stuck is =
      let g : PathFound n t work None work' = subst (λ (x : Option Joins). PathFound n t work x work') is f in
      (rw (e, g.0), g.1)
