-- What each call for C leaves is what it is to leave: the laws over plain values, for a short `out` and for every answer.
-- Assumes nothing.
use mathlib.Core.Bool.{Bool, false}
use mathlib.Core.List.{List, [], ◌∷◌, ◌++◌}
use mathlib.Core.Path.{◌≡◌, sym, ◌∙◌, ap}
use Prim.Native.Nat.{ℕ, ◌≤◌, ◌<◌}
use Rattle.std.specs.Prelude.{Result}
use lib.ListN.{length, get_or, take, drop, take-append-drop}
use lib.Seq.{length-take-le, take_at, drop_at}
use borrow.Author.Tests.{lt-ltb, le-ltb}
use Rattle.price.specs.Replies as p
use Rattle.price.specs.declared.BadNumber.{BadNumber}
use Rattle.search.specs.Block.{Block}
use Rattle.search.specs.Replies.{SearchReply, search_refusal, search_reply_of}
use Rattle.search.specs.declared.Refusal.{Refusal}
use Rattle.job.specs.Job.{Job}
use Rattle.job.specs.Join.{joined}
use Rattle.negotiation.specs.Records.{Record}
use Rattle.negotiation.specs.Outcome.{RouteReply, turns_logged, route_refusal, route_reply_of}
use Rattle.negotiation.specs.Audit.{AuditReply, audit_reply_of}
use Rattle.negotiation.specs.Aimed.{expanded_after}
use Rattle.negotiation.specs.declared.AuditAnswer.{AuditAnswer}
use Rattle.negotiation.specs.declared.RouteAnswer.{RouteAnswer}
use Rattle.text.specs.ReadReplies.{Tables, read_refusal, read_numbers, read_reply_of, read_reply}
use Rattle.text.specs.Routes.{WriteReply}
use Rattle.text.specs.declared.JobCounts.{JobCounts}
use Rattle.text.specs.declared.ReadRefusal.{ReadRefusal}
use Rattle.uses.specs.Uses.{kind_count, use_counts_of, AddReply, add_refusal, logs_after, add_reply_of, add_reply, print_reply}
use Rattle.uses.specs.declared.AddRefusal.{AddRefusal}
use Rattle.uses.proofs.UsesHold.{counts-long}
use Rattle.capi.specs.Calls.{out_entries, Call, call_of, out_with, priced_call, search_done, searched_call, RouteCall, route_done, routed_call, counted_call, read_done, read_call, WriteCall, write_done, written_call}
use Rattle.capi.specs.Calls.{audit_done, audited_call, add_done, add_call, uses_call}

-- ---- the price

module _ (reply : p.PriceReply) (out : List ℕ) where
  pub price-short : length out < out_entries → call_of 0 out ≡ priced_call reply out
  unfolding priced_call
  price-short h = rw (lt-ltb (length out) out_entries h)

  -- the price answered `r`, whose numbers were written; so of each call below
  pub price_called :
      (call : Call) (r : Result ℕ BadNumber) → out_entries ≤ length out → p.price_reply_of r ≡ reply
      → call ≡ call_of 1 (out_with (p.price_reply_of r).refusal ((p.price_reply_of r).price ∷ []) out) → call ≡ priced_call reply out
  unfolding priced_call
  price_called call r h answers put = rw (le-ltb (length out) out_entries h, ← answers) put

-- ---- the search

module _ (reply : SearchReply) (work out : List ℕ) where
  pub search_short : length out < out_entries → search_done (call_of 0 out) work ≡ searched_call reply work out
  unfolding searched_call
  search_short h = rw (lt-ltb (length out) out_entries h)

  pub search_called :
      (left : List ℕ) (call : Call) (r : Result (Unit {0}) Refusal) → out_entries ≤ length out → search_reply_of r left ≡ reply
      → call ≡ call_of 1 (out_with (search_refusal r) [] out) → search_done call left ≡ searched_call reply work out
  unfolding searched_call
  search_called left call r h answers put = rw (le-ltb (length out) out_entries h, ← answers, put)

-- ---- the router

module _ (reply : RouteReply) (further work log out : List ℕ) where
  pub route_short : length out < out_entries → route_done (call_of 0 out) work log ≡ routed_call reply further work log out
  unfolding routed_call
  route_short h = rw (lt-ltb (length out) out_entries h)

-- of every run, one that begins or one that goes on, by either search
pub route_called :
    (reply : RouteReply) (work log out left logged : List ℕ) (call : Call) (r : RouteAnswer) (aimed : Bool) (j : Job) (lent : List Record) → out_entries ≤ length out
    → route_reply_of r left logged ≡ reply → r.expanded ≡ expanded_after aimed (joined j) lent (turns_logged (route_reply_of r left logged))
    → call ≡ call_of 1 (out_with (route_refusal r.outcome r.iteration r.turns) (r.iteration ∷ r.turns ∷ r.used ∷ r.expanded ∷ []) out)
    → route_done call left logged ≡ counted_call aimed j lent reply work log out
unfolding routed_call
route_called reply work log out left logged call r aimed j lent h answers counted put = rw (le-ltb (length out) out_entries h, ← answers, put, counted)

-- the plain search counts nothing, and 0 is told there without it
pub plain_called :
    (j : Job) (lent : List Record) (reply : RouteReply) (work log out : List ℕ) {done : RouteCall} → done ≡ counted_call false j lent reply work log out
    → done ≡ routed_call reply [] work log out
unfolding routed_call expanded_after
plain_called j lent reply work log out is = is

-- ---- the audit

module _ (reply : AuditReply) (work out : List ℕ) where
  pub audit_short : length out < out_entries → audit_done (call_of 0 out) work ≡ audited_call reply work out
  unfolding audited_call
  audit_short h = rw (lt-ltb (length out) out_entries h)

  pub audit_called :
      (left : List ℕ) (call : Call) (r : AuditAnswer) → out_entries ≤ length out → audit_reply_of r left ≡ reply
      → call ≡ call_of 1 (out_with (route_refusal r.outcome 0 0) (r.turns ∷ r.whole ∷ r.over ∷ get_or (route_refusal r.outcome 0 0) 3 0 ∷ []) out)
      → audit_done call left ≡ audited_call reply work out
  unfolding audited_call
  audit_called left call r h answers put = rw (le-ltb (length out) out_entries h, ← answers, put)

-- ---- the reader

module _ (text : List ℕ) (t : Tables) (out : List ℕ) where
  pub read_short : length out < out_entries → read_done (call_of 0 out) t ≡ read_call text t out
  unfolding read_call
  read_short h = rw (lt-ltb (length out) out_entries h)

  pub read_called :
      (left : Tables) (call : Call) (r : Result JobCounts ReadRefusal) → out_entries ≤ length out → read_reply_of r left ≡ read_reply text t
      → call ≡ call_of 1 (out_with (read_refusal r) (read_numbers r) out) → read_done call left ≡ read_call text t out
  unfolding read_call
  read_called left call r h answers put = rw (le-ltb (length out) out_entries h, ← answers, put)

-- ---- the writer

module _ (reply : WriteReply) (buffer out : List ℕ) where
  pub write_short : length out < out_entries → write_done (call_of 0 out) buffer ≡ written_call reply buffer out
  unfolding written_call
  write_short h = rw (lt-ltb (length out) out_entries h)

  -- of every text
  pub write_called :
      (left : List ℕ) (call : Call) {refusal : List ℕ} {bytes : ℕ} → out_entries ≤ length out → record { refusal = refusal; bytes = bytes; buffer = left } ≡ reply
      → call ≡ call_of 1 (out_with refusal (bytes ∷ []) out) → write_done call left ≡ written_call reply buffer out
  unfolding written_call
  write_called left call h answers put = rw (le-ltb (length out) out_entries h, ← answers, put)

-- ---- counts of uses

module _ (counts : List ℕ) {all : List ℕ} (copied_all : all ≡ take kind_count counts) where
  pub uses-written :
      (b : Block) (logs : ℕ) (buffer : List ℕ) {reply : WriteReply} → reply ≡ print_reply b (use_counts_of all logs) buffer
      → reply ≡ print_reply b (use_counts_of (take kind_count counts) logs) buffer
  uses-written b logs buffer is = is ∙ ap (λ (xs : List ℕ). print_reply b (use_counts_of xs logs) buffer) copied_all

  -- after a log it is as long
  module _ (long : kind_count ≤ length counts) (b : Block) (logs : ℕ) (log : List ℕ) (r : Result ℕ AddRefusal) {after : List ℕ} (answers : add_reply_of logs r after ≡ add_reply b (use_counts_of all logs) log) where
    after-long : length after ≡ kind_count
    after-long =
        ap (λ (reply : AddReply). length reply.counts.uses) answers
        ∙ counts-long b (use_counts_of all logs) log (ap length copied_all ∙ length-take-le kind_count counts long)

    -- and stands in the slice again
    pub log_added_lem :
        {left : List ℕ} → left ≡ after ++ drop kind_count counts
        → (add_reply_of logs r (take kind_count left) ≡ add_reply b (use_counts_of (take kind_count counts) logs) log) × (drop kind_count left ≡ drop kind_count counts)
    log_added_lem {left} put =
        let size = after-long in (
          ap (add_reply_of logs r) (ap (take kind_count) put ∙ take_at after (drop kind_count counts) kind_count size)
              ∙ answers ∙ ap (λ (xs : List ℕ). add_reply b (use_counts_of xs logs) log) copied_all,
          ap (drop kind_count) put ∙ drop_at after (drop kind_count counts) kind_count size,
        )

module _ (b : Block) (counts : List ℕ) (logs : ℕ) (log out : List ℕ) where
  pub add-few : length counts < kind_count → add_done (call_of 0 out) counts ≡ add_call b counts logs log out
  unfolding add_call
  add-few h = rw (lt-ltb (length counts) kind_count h)

  module _ (long : kind_count ≤ length counts) where
    pub add-short : length out < out_entries → add_done (call_of 0 out) counts ≡ add_call b counts logs log out
    unfolding add_call
    add-short h = rw (le-ltb (length counts) kind_count long, lt-ltb (length out) out_entries h)

    pub add_called :
        (left : List ℕ) (call : Call) (r : Result ℕ AddRefusal) → out_entries ≤ length out
        → (add_reply_of logs r (take kind_count left) ≡ add_reply b (use_counts_of (take kind_count counts) logs) log) × (drop kind_count left ≡ drop kind_count counts)
        → call ≡ call_of 1 (out_with (add_refusal r) (logs_after logs r ∷ []) out) → add_done call left ≡ add_call b counts logs log out
    unfolding add_call
    add_called left call r h (answers, stays) put =
        let whole : take kind_count left ++ drop kind_count counts ≡ left =
        ap (λ (xs : List ℕ). take kind_count left ++ xs) (sym stays) ∙ take-append-drop kind_count left in
        rw (le-ltb (length counts) kind_count long, le-ltb (length out) out_entries h, ← answers, whole, put)

module _ (b : Block) (counts : List ℕ) (logs : ℕ) (buffer out : List ℕ) where
  pub uses-few : length counts < kind_count → write_done (call_of 0 out) buffer ≡ uses_call b counts logs buffer out
  unfolding uses_call
  uses-few h = rw (lt-ltb (length counts) kind_count h)

  -- else it is a writer's call
  pub uses_called :
      {done : WriteCall} → kind_count ≤ length counts → done ≡ written_call (print_reply b (use_counts_of (take kind_count counts) logs) buffer) buffer out
      → done ≡ uses_call b counts logs buffer out
  unfolding uses_call
  uses_called long is = rw (le-ltb (length counts) kind_count long) is
