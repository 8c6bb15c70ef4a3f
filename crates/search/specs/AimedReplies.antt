-- Request 2.13: what the cheapest path by the search that aims answers and leaves in the work slice.
-- Assumes nothing.
use Rattle.std.specs.Prelude.{List, [], ℕ, ◌+◌, eqb, length, Option, Result, Ok, Err}
use Rattle.price.specs.Test.{choose}
use Rattle.search.specs.Block.{Block, nodes}
use Rattle.search.specs.Turn.{Congestion, Turn, turn}
use Rattle.search.specs.Aimed.{estimate, expanded_by}
use Rattle.search.specs.ByTarget.{agreed, turned}
use Rattle.search.specs.Clamped.{clamped_price, clamped_weight}
use Rattle.search.specs.Replies.{cleared, PathReply, bad_table, turn_numbers, turn_path, fitting, path_due, path_reply_of}
use Rattle.search.specs.declared.Refusal.{Refusal}
use Rattle.search.specs.declared.Joins.{Joins}
use Rattle.search.specs.declared.AimedTurn.{AimedTurn}

-- the answer of a turn and its work slice, and "The aimed answer also counts the nodes expanded"
pub record AimedPathReply : Type 0 where
  pub path : PathReply
  pub expanded : ℕ

-- the path stands at the beginning of the work slice, from tree to sink; the rest of its first 8 × nodes entries hold 0
abbrev pub joined_reply : ℕ → List ℕ → Turn → PathReply
joined_reply n work t = record { refusal = []; joined = turn_numbers t; work = cleared n (turn_path t) work }

-- the plain search's turn over block `a`, with the count by estimates over block `e`; a number that prices a node is read within its bounds
unfoldable pub aimed_turn_reply : Block → Block → Congestion → List ℕ → List ℕ → List ℕ → AimedPathReply
aimed_turn_reply a e c marks sinks work =
    let price = clamped_price a.kinds a.capacities c in
    let weight = clamped_weight a.kinds c.weighting in
    record {
      path = joined_reply (nodes a) work (turn a price marks sinks);
      expanded = expanded_by a price (estimate e weight marks sinks) marks sinks;
    }

-- a refusal leaves the work slice as it was
abbrev pub refused_reply : List ℕ → List ℕ → AimedPathReply
refused_reply refusal work = record { path = record { refusal = refusal; joined = []; work = work }; expanded = 0 }

-- One turn of the search that aims, for every input: where every length is right, that turn over the edges that both pairs of tables have,
-- by estimates over the tables by target alone, whatever the entries are. Of tables 1 to 4, the lists of the nodes and the sinks a wrong
-- length is refused as the plain search's turn refuses it; the first table by target has as many entries as table 3, else it is refused as
-- that.
unfoldable pub aimed_path_reply : Block → Block → Congestion → List ℕ → List ℕ → List ℕ → AimedPathReply
aimed_path_reply b r c marks sinks work =
    choose (fitting b c marks sinks work)
    (choose (eqb (length r.first_edges) (nodes b + 1))
    (aimed_turn_reply (agreed b r) (turned r) c marks sinks work)
    (refused_reply (bad_table 3) work))
    (refused_reply (path_due b c marks sinks work) work)

-- what is joined, as the plain search answers it; and how many nodes were expanded, 0 after a refusal
abbrev pub joins_of : Result AimedTurn Refusal → Result (Option Joins) Refusal
joins_of (Ok turn) = Ok turn.joins
joins_of (Err refusal) = Err refusal

abbrev pub expanded_in : Result AimedTurn Refusal → ℕ
expanded_in (Ok turn) = turn.expanded
expanded_in (Err _) = 0

-- the answer with the work slice at the call's end
abbrev pub aimed_path_reply_of : Result AimedTurn Refusal → List ℕ → AimedPathReply
aimed_path_reply_of r work = record { path = path_reply_of (joins_of r) work; expanded = expanded_in r }
