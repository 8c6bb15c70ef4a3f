-- Row 4 by the tables' lengths, then 15, and what the reader leaves once all lines are read.
-- Assumes nothing.
use mathlib.Core.Bool.{Bool, true, false}
use mathlib.Core.List.{List, [], ◌∷◌}
use mathlib.Core.Logic.{⊎_elim}
use mathlib.Core.Path.{◌≡◌, refl, sym, ◌∙◌}
use Prim.Native.Nat.{ℕ, suc, ◌+◌, ◌≤◌, ◌<◌}
use native.Mathlib.Omega.{arith}
use lib.ListN.{length, take}
use lib.Seq.{length-take-le}
use borrow.Author.Tests.{lt-ltb, le-ltb, le-leb, lt-leb}
use Rattle.price.specs.Test.{choose}
use Rattle.price.proofs.TestLaws.{le_or_lt}
use Rattle.search.specs.Replies.{sinks_most}
use Rattle.job.specs.Job.{Job}
use Rattle.job.specs.Tables.{exceeds}
use Rattle.job.specs.declared.Terms.{Terms}
use Rattle.text.specs.JobText.{read_text}
use Rattle.text.specs.ReadReplies.{Tables, ReadReply, not_read, refusal_numbers, lowest_short, short_times, short_untimed, short_table, written_over, tables_with, terms_numbers, job_numbers, stored_reply, read_reply}
use Rattle.text.specs.Steps.{row}
use Rattle.std.specs.Option.{option_or}
use Rattle.std.specs.Prelude.{Option}
use Rattle.std.specs.Prelude.{Some, None}
use Rattle.text.specs.ReadSteps.{table_number, Named, lowest_of_nine, RoomForAll, CountsWithin, job_taken, job_at, JobPlace, at_line, line_refusal, Over}
use Rattle.std.specs.Prelude.{Result}
use Rattle.std.specs.Prelude.{Ok, Err}
use Rattle.text.specs.declared.JobCounts.{JobCounts}
use Rattle.text.specs.declared.place.LineRefusal.{LineRefusal}
use Rattle.text.specs.declared.place.LineFault.{LineFault}
use Rattle.text.specs.declared.place.LineFault.TheVariants.{Malformed, BeyondBounds, WrongOrder}

-- each table's turn in row 4
module _ (n edges nets count kinds capacities first_edges edge_targets sources first_sinks sinks : ℕ) where
  pub short-kinds : kinds < n → lowest_short n edges nets count kinds capacities first_edges edge_targets sources first_sinks sinks ≡ 1
  unfolding lowest_short
  short-kinds h = rw (lt-ltb kinds n h)

  module _ (a : n ≤ kinds) where
    pub short-capacities : capacities < n → lowest_short n edges nets count kinds capacities first_edges edge_targets sources first_sinks sinks ≡ 2
    unfolding lowest_short
    short-capacities h = rw (le-ltb kinds n a, lt-ltb capacities n h)

    module _ (b : n ≤ capacities) where
      pub short-first_edges : first_edges < n + 1 → lowest_short n edges nets count kinds capacities first_edges edge_targets sources first_sinks sinks ≡ 3
      unfolding lowest_short
      short-first_edges h = rw (le-ltb kinds n a, le-ltb capacities n b, lt-ltb first_edges (n + 1) h)

      module _ (d : n + 1 ≤ first_edges) where
        pub short-edges : edge_targets < edges → lowest_short n edges nets count kinds capacities first_edges edge_targets sources first_sinks sinks ≡ 4
        unfolding lowest_short
        short-edges h = rw (le-ltb kinds n a, le-ltb capacities n b, le-ltb first_edges (n + 1) d, lt-ltb edge_targets edges h)

        module _ (e : edges ≤ edge_targets) where
          pub short-sources : sources < nets → lowest_short n edges nets count kinds capacities first_edges edge_targets sources first_sinks sinks ≡ 5
          unfolding lowest_short
          short-sources h = rw (le-ltb kinds n a, le-ltb capacities n b, le-ltb first_edges (n + 1) d, le-ltb edge_targets edges e, lt-ltb sources nets h)

          module _ (f : nets ≤ sources) where
            pub short-first_sinks : first_sinks < nets + 1 → lowest_short n edges nets count kinds capacities first_edges edge_targets sources first_sinks sinks ≡ 6
            unfolding lowest_short
            short-first_sinks h = rw (le-ltb kinds n a, le-ltb capacities n b, le-ltb first_edges (n + 1) d, le-ltb edge_targets edges e, le-ltb sources nets f, lt-ltb first_sinks (nets + 1) h)

            module _ (g : nets + 1 ≤ first_sinks) where
              pub short-sinks : sinks < count → lowest_short n edges nets count kinds capacities first_edges edge_targets sources first_sinks sinks ≡ 7
              unfolding lowest_short
              short-sinks h = rw (le-ltb kinds n a, le-ltb capacities n b, le-ltb first_edges (n + 1) d, le-ltb edge_targets edges e, le-ltb sources nets f, le-ltb first_sinks (nets + 1) g, lt-ltb sinks count h)

              pub short_none : count ≤ sinks → lowest_short n edges nets count kinds capacities first_edges edge_targets sources first_sinks sinks ≡ 0
              unfolding lowest_short
              short_none h = rw (le-ltb kinds n a, le-ltb capacities n b, le-ltb first_edges (n + 1) d, le-ltb edge_targets edges e, le-ltb sources nets f, le-ltb first_sinks (nets + 1) g, le-ltb sinks count h)

-- those of timed jobs alone
module _ (n count delays criticalities : ℕ) where
  pub short-delays : delays < n → short_times n count delays criticalities ≡ 9
  unfolding short_times
  short-delays h = rw (lt-ltb delays n h)

  module _ (a : n ≤ delays) where
    pub short-criticalities : criticalities < count → short_times n count delays criticalities ≡ 10
    unfolding short_times
    short-criticalities h = rw (le-ltb delays n a, lt-ltb criticalities count h)

    pub short_no_times : count ≤ criticalities → short_times n count delays criticalities ≡ 0
    unfolding short_times
    short_no_times h = rw (le-ltb delays n a, le-ltb criticalities count h)

-- the lower tables' turn comes first
pub lowest_or :
    (a b : Option ℕ) {first times : ℕ} → table_number a ≡ first → Named a → table_number b ≡ times → Named b
    → (table_number (option_or a b) ≡ lowest_of_nine first times) × Named (option_or a b)
lowest_or None b is some later named = (later ∙ rw (← is), named)
lowest_or (Some table) b is some later named = (rw (← is, le-leb 1 table some), some)

none_of_nine : (first times : ℕ) → lowest_of_nine first times ≡ 0 → (first ≡ 0) × (times ≡ 0)
none_of_nine first times none =
    ⊎_elim
    (λ (h : 1 ≤ first). absurd (let some : first ≡ 0 = rw (le-leb 1 first h) at none in omega arith))
    (λ (h : first < 1). (omega arith, rw (lt-leb 1 first h) at none))
    (le_or_lt 1 first)

-- each table is long enough for the job
pub record LongEnough (n edges nets count kinds capacities first_edges edge_targets sources first_sinks sinks : ℕ) : Type 0 where
  pub kinds-long : n ≤ kinds
  pub capacities-long : n ≤ capacities
  pub first_edges-long : n + 1 ≤ first_edges
  pub edge_targets-long : edges ≤ edge_targets
  pub sources-long : nets ≤ sources
  pub first_sinks-long : nets + 1 ≤ first_sinks
  pub sinks-long : count ≤ sinks

-- a table that no refusal names is long enough
long_or : (need long table result : ℕ) → (long < need → result ≡ suc table) → result ≡ 0 → need ≤ long
long_or need long table result short none =
    ⊎_elim (λ (h : need ≤ long). h) (λ (l : long < need). let named = short l in absurd (omega arith)) (le_or_lt need long)

-- row 4 names no table exactly where each is long enough
pub none-short :
    (n edges nets count kinds capacities first_edges edge_targets sources first_sinks sinks : ℕ)
    → lowest_short n edges nets count kinds capacities first_edges edge_targets sources first_sinks sinks ≡ 0
    → LongEnough n edges nets count kinds capacities first_edges edge_targets sources first_sinks sinks
none-short n edges nets count kinds capacities first_edges edge_targets sources first_sinks sinks none =
    let r = lowest_short n edges nets count kinds capacities first_edges edge_targets sources first_sinks sinks in
    let a : n ≤ kinds = long_or n kinds 0 r (short-kinds n edges nets count kinds capacities first_edges edge_targets sources first_sinks sinks) none in
    let b : n ≤ capacities = long_or n capacities 1 r (short-capacities n edges nets count kinds capacities first_edges edge_targets sources first_sinks sinks a) none in
    let d : n + 1 ≤ first_edges = long_or (n + 1) first_edges 2 r (short-first_edges n edges nets count kinds capacities first_edges edge_targets sources first_sinks sinks a b) none in
    let e : edges ≤ edge_targets = long_or edges edge_targets 3 r (short-edges n edges nets count kinds capacities first_edges edge_targets sources first_sinks sinks a b d) none in
    let f : nets ≤ sources = long_or nets sources 4 r (short-sources n edges nets count kinds capacities first_edges edge_targets sources first_sinks sinks a b d e) none in
    let g : nets + 1 ≤ first_sinks =
    long_or (nets + 1) first_sinks 5 r (short-first_sinks n edges nets count kinds capacities first_edges edge_targets sources first_sinks sinks a b d e f) none in
    let k : count ≤ sinks = long_or count sinks 6 r (short-sinks n edges nets count kinds capacities first_edges edge_targets sources first_sinks sinks a b d e f g) none in
    record { kinds-long = a; capacities-long = b; first_edges-long = d; edge_targets-long = e; sources-long = f; first_sinks-long = g; sinks-long = k }

-- tables 9 and 10 are long enough
pub record TimesEnough (n count delays criticalities : ℕ) : Type 0 where
  pub delays-long : n ≤ delays
  pub criticalities-long : count ≤ criticalities

pub no_times_short : (n count delays criticalities : ℕ) → short_times n count delays criticalities ≡ 0 → TimesEnough n count delays criticalities
no_times_short n count delays criticalities none =
    let r = short_times n count delays criticalities in
    let a : n ≤ delays = long_or n delays 8 r (short-delays n count delays criticalities) none in
    record { delays-long = a; criticalities-long = long_or count criticalities 9 r (short-criticalities n count delays criticalities a) none }

-- the first entries of a list over those of another
written_over_lem : (count : ℕ) (from before after : List ℕ) → count ≤ length from → Over count from before after → after ≡ written_over (take count from) before
unfolding written_over
written_over_lem count from before after long over = rw (length-take-le count from long) over

-- an untimed job needs none of its entries
pub due-most : {due count : ℕ} (b : Bool) → due ≡ choose b count 0 → due ≤ count
due-most true e = omega arith
due-most false e = omega arith

-- a table that timed jobs alone have: how long it is, and what is written over it
module _ (count : ℕ) (from : List ℕ) (long : count ≤ length from) where
  timed_length : (b : Bool) → length (choose b (take count from) []) ≡ choose b count 0
  timed_length true = length-take-le count from long
  timed_length false = refl

  timed_over : (b : Bool) (before after : List ℕ) → Over (choose b count 0) from before after → after ≡ written_over (choose b (take count from) []) before
  unfolding written_over
  timed_over true before after over = written_over_lem count from before after long over
  timed_over false before after over = over

-- the job in tables that have room for any, and the tables that were lent
module _
    (n edges nets count : ℕ) (terms : Terms) (kinds capacities first_edges edge_targets sources first_sinks sinks delays criticalities : List ℕ)
    (room : RoomForAll kinds capacities first_edges edge_targets sources first_sinks sinks delays criticalities) (within : CountsWithin n edges nets)
    (few : count ≤ sinks_most) where
  abbrev job : Job
  job = job_taken (record { nodes = n; edges = edges; nets = nets; sinks = count; terms = terms }) kinds capacities first_edges edge_targets sources first_sinks sinks delays criticalities

  nodes_are : length (take n kinds) ≡ n
  nodes_are = length-take-le n kinds (omega (arith, room.kinds-long, within.nodes_most_lem))

  edges_are : length (take edges edge_targets) ≡ edges
  edges_are = length-take-le edges edge_targets (omega (arith, room.edge-room.targets-long, within.edges_most_lem))

  nets_are : length (take nets sources) ≡ nets
  nets_are = length-take-le nets sources (omega (arith, room.net-room.sources-long, within.nets_most_lem))

  count-is : length (take count sinks) ≡ count
  count-is = length-take-le count sinks (omega (arith, room.net-room.sinks-long))

  delays-there : n ≤ length delays
  delays-there = omega (arith, room.delays-long, within.nodes_most_lem)

  tenths_there : count ≤ length criticalities
  tenths_there = omega (arith, room.net-room.criticalities-long)

  module _ (t : Tables) (delays_due tenths_due : ℕ) (delays-due : delays_due ≡ choose terms.timed n 0) (tenths-due : tenths_due ≡ choose terms.timed count 0) where
    abbrev seven : ℕ
    seven =
        lowest_short n edges nets count (length t.kinds) (length t.capacities) (length t.first_edges) (length t.edge_targets) (length t.sources) (length t.first_sinks) (length t.sinks)

    abbrev lacking : ℕ
    lacking = lowest_of_nine seven (short_times delays_due tenths_due (length t.delays) (length t.criticalities))

    delays_are : length (choose terms.timed (take n delays) []) ≡ delays_due
    delays_are = timed_length n delays delays-there terms.timed ∙ sym delays-due

    tenths_are : length (choose terms.timed (take count criticalities) []) ≡ tenths_due
    tenths_are = timed_length count criticalities tenths_there terms.timed ∙ sym tenths-due

    short-is : short_table job t ≡ lacking
    unfolding short_table short_untimed
    short-is = rw (nodes_are, edges_are, nets_are, count-is, delays_are, tenths_are)

    -- 4: a table is too short
    pub store_short : {x : Option ℕ} {table : ℕ} → table_number x ≡ lacking → Named x → x ≡ Some table → not_read (4 ∷ table ∷ []) t ≡ stored_reply job t
    unfolding stored_reply
    store_short {x} {table} is named given =
        let here : table ≡ lacking = rw given at is in
        let some : 1 ≤ table = rw given at named in
        rw (short-is, ← here, le-leb 1 table some)

    module _ {x : Option ℕ} (is : table_number x ≡ lacking) (none : x ≡ None) where
      none_is : lacking ≡ 0
      none_is = sym (rw none at is)

      not_short : short_table job t ≡ 0
      not_short = short-is ∙ none_is

      -- 15: the job is too large
      pub store_large : {large : Bool} → large ≡ exceeds n terms → large ≡ true → not_read (15 ∷ n ∷ terms.limit ∷ []) t ≡ stored_reply job t
      unfolding stored_reply
      store_large e h = let over : exceeds n terms ≡ true = sym e ∙ h in rw (not_short, nodes_are, over)

      pub store_room :
          LongEnough n edges nets count (length t.kinds) (length t.capacities) (length t.first_edges) (length t.edge_targets)
          (length t.sources) (length t.first_sinks) (length t.sinks)
      store_room =
          none-short n edges nets count (length t.kinds) (length t.capacities) (length t.first_edges) (length t.edge_targets) (length t.sources) (length t.first_sinks) (length t.sinks)
          (none_of_nine seven (short_times delays_due tenths_due (length t.delays) (length t.criticalities)) none_is).0

      pub store_times : TimesEnough delays_due tenths_due (length t.delays) (length t.criticalities)
      store_times =
          no_times_short delays_due tenths_due (length t.delays) (length t.criticalities)
          (none_of_nine seven (short_times delays_due tenths_due (length t.delays) (length t.criticalities)) none_is).1

      -- the tables with the job written over them
      pub store_done :
          (after : Tables) {large : Bool} → large ≡ exceeds n terms → large ≡ false → Over n kinds t.kinds after.kinds
          → Over n capacities t.capacities after.capacities → Over (n + 1) first_edges t.first_edges after.first_edges
          → Over edges edge_targets t.edge_targets after.edge_targets → Over nets sources t.sources after.sources
          → Over (nets + 1) first_sinks t.first_sinks after.first_sinks → Over count sinks t.sinks after.sinks
          → Over delays_due delays t.delays after.delays → Over tenths_due criticalities t.criticalities after.criticalities
          → record { refusal = []; numbers = n ∷ edges ∷ nets ∷ count ∷ terms_numbers terms; tables = after } ≡ stored_reply job t
      unfolding stored_reply tables_with job_numbers
      store_done after e h k c fe et s fs si d cr =
          let fits : exceeds n terms ≡ false = sym e ∙ h in
          let one = written_over_lem n kinds t.kinds after.kinds (omega (arith, room.kinds-long, within.nodes_most_lem)) k in
          let two = written_over_lem n capacities t.capacities after.capacities (omega (arith, room.capacities-long, within.nodes_most_lem)) c in
          let three = written_over_lem (n + 1) first_edges t.first_edges after.first_edges (omega (arith, room.edge-room.firsts-long, within.nodes_most_lem)) fe in
          let four = written_over_lem edges edge_targets t.edge_targets after.edge_targets (omega (arith, room.edge-room.targets-long, within.edges_most_lem)) et in
          let five = written_over_lem nets sources t.sources after.sources (omega (arith, room.net-room.sources-long, within.nets_most_lem)) s in
          let six = written_over_lem (nets + 1) first_sinks t.first_sinks after.first_sinks (omega (arith, room.net-room.firsts-long, within.nets_most_lem)) fs in
          let seventh = written_over_lem count sinks t.sinks after.sinks (omega (arith, room.net-room.sinks-long)) si in
          let ninth = timed_over n delays delays-there terms.timed t.delays after.delays (rw delays-due at d) in
          let tenth = timed_over count criticalities tenths_there terms.timed t.criticalities after.criticalities (rw tenths-due at cr) in
          rw (not_short, nodes_are, fits, edges_are, nets_are, count-is, ← one, ← two, ← three, ← four, ← five, ← six, ← seventh, ← ninth, ← tenth)

-- all lines are read, and what the tables have is that job; or a line was refused
module _
    (text : List ℕ) (x : Result JobCounts LineRefusal) (end : ℕ) (kinds capacities first_edges edge_targets sources first_sinks sinks delays criticalities : List ℕ)
    (read : job_at end x kinds capacities first_edges edge_targets sources first_sinks sinks delays criticalities ≡ read_text text) (t : Tables) where
  pub job_read_lem :
      {c : JobCounts} (r : ReadReply) → x ≡ Ok c
      → r ≡ stored_reply (job_taken c kinds capacities first_edges edge_targets sources first_sinks sinks delays criticalities) t → r ≡ read_reply text t
  unfolding read_reply
  job_read_lem r is stored = stored ∙ rw (← read, is)

  -- the numbers of a faulty line
  line_numbers : (k : LineFault) (line : ℕ) → refusal_numbers (at_line k line) ≡ row k ∷ line ∷ []
  line_numbers Malformed line = refl
  line_numbers BeyondBounds line = refl
  line_numbers WrongOrder line = refl

  pub job-stopped : {e : LineRefusal} → x ≡ Err e → not_read (refusal_numbers (line_refusal e)) t ≡ read_reply text t
  unfolding read_reply
  job-stopped {e} is = rw (← read, is, line_numbers e.fault e.line)

-- the counts of a job that was read
pub job-counts : {x : Result JobCounts LineRefusal} {c : JobCounts} → x ≡ Ok c → JobPlace x → CountsWithin c.nodes c.edges c.nets × (c.sinks ≤ sinks_most)
job-counts is place = rw is at place
