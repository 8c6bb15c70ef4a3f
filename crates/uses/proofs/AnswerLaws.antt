-- What the two calls answer, from what the test of the counts found.
-- Assumes nothing.
use mathlib.Core.List.{List, [], ◌∷◌}
use mathlib.Core.Path.{◌≡◌, sym, ◌∙◌}
use Prim.Native.Nat.{ℕ}
use native.Mathlib.Nat.{le_trans}
use native.Mathlib.Omega.{arith}
use Rattle.std.specs.Prelude.{Err}
use Rattle.search.specs.Block.{Block, block_of}
use Rattle.text.specs.Routes.{WriteReply, text_reply}
use Rattle.uses.specs.Uses.{uses_in, nodes_of, capacity_of, UseCounts, counts_refusal, with_log, AddReply, add_reply_of, tested_reply, add_reply, use_line, uses_text, print_reply_of, print_reply}
use Rattle.uses.specs.Steps.{count_most, AtMost, test_refusal, add_due, print_due}
use Rattle.uses.specs.declared.counts.CountsRefusal.{CountsRefusal}
use Rattle.uses.specs.declared.counts.CountsRefusal.TheVariants as t
use Rattle.uses.proofs.SumLaws.{kind_nodes_most}
use Rattle.uses.proofs.CountsLaws.{few-nodes, product_fits}
use Rattle.uses.proofs.UsesHold.{Fine, passes_fine}

-- counts that pass leave room for a log
pub uses-low : (b : Block) (c : UseCounts) → Fine b c → AtMost count_most c.uses
unfolding nodes_of
uses-low b c f k l =
    omega (arith, f.within k l, product_fits f.few (let most = kind_nodes_most b.kinds k in let few = few-nodes b f.sound in le_trans most few))

module _ (b : Block) (c : UseCounts) where
  pub test_fine : [] ≡ counts_refusal b c → Fine b c
  test_fine passed = passes_fine b c (sym passed)

  -- ---- printing

  module _ (buffer : List ℕ) where
    pub print_refused : (due : CountsRefusal) → test_refusal (Err due) ≡ counts_refusal b c → print_reply_of (Err (print_due due)) buffer ≡ print_reply b c buffer
    unfolding print_reply
    print_refused (t.BadTable table) is = rw (← is)
    print_refused (t.BadCount kind) is = rw (← is)

    -- the text rests on kinds and capacities alone
    pub print_fine : {reply : WriteReply} → [] ≡ counts_refusal b c → reply ≡ text_reply (uses_text (block_of b.kinds b.capacities [] []) c) buffer → reply ≡ print_reply b c buffer
    unfolding print_reply uses_text use_line capacity_of
    print_fine passed is = is ∙ rw (← passed)

  -- ---- adding

  module _ (log : List ℕ) where
    pub add_refused : (due : CountsRefusal) → test_refusal (Err due) ≡ counts_refusal b c → add_reply_of c.logs (Err (add_due due)) c.uses ≡ add_reply b c log
    unfolding add_reply
    add_refused (t.BadTable table) is = rw (← is)
    add_refused (t.BadCount kind) is = rw (← is)

    -- a log is added by the kinds alone
    pub add_fine : {reply : AddReply} → [] ≡ counts_refusal b c → reply ≡ tested_reply (block_of b.kinds [] [] []) c log → reply ≡ add_reply b c log
    unfolding add_reply tested_reply with_log uses_in
    add_fine passed is = is ∙ rw (← passed)
