-- What each call for C leaves in `out` and in every other slice that it is lent, and what it returns.
-- Assumes nothing.
use Rattle.std.specs.Prelude.{Bool, true, List, [], ◌∷◌, ◌++◌, ℕ, ◌-◌, leb, ltb, length, get_or, take, drop, replicate}
use Rattle.price.specs.Test.{choose}
use Rattle.price.specs.Replies as p
use Rattle.price.specs.Tuning.{plain}
use Rattle.price.specs.Timed.{timed_reply}
use Rattle.search.specs.Block.{Block}
use Rattle.search.specs.Turn.{Congestion}
use Rattle.search.specs.Replies.{SearchReply, search_reply, timed_search_reply}
use Rattle.job.specs.Job.{Job, plain_terms}
use Rattle.job.specs.declared.Terms.{Terms}
use Rattle.job.specs.Join.{joined}
use Rattle.negotiation.specs.Records.{Record, decode}
use Rattle.negotiation.specs.Outcome.{RouteReply, route_reply, turns_logged}
use Rattle.negotiation.specs.Resume.{resume_reply}
use Rattle.negotiation.specs.Audit.{AuditReply, audit_reply}
use Rattle.negotiation.specs.Aimed.{expanded_after}
use Rattle.text.specs.ReadReplies.{Tables, ReadReply, read_reply}
use Rattle.text.specs.Routes.{WriteReply, write_reply}
use Rattle.text.specs.Dot.{dot_reply}
use Rattle.uses.specs.Uses.{kind_count, use_counts_of, AddReply, add_reply, print_reply}

-- this many entries: those of the list, then 0
abbrev pub padded : ℕ → List ℕ → List ℕ
padded k xs = take k (xs ++ replicate k 0)

-- the entries of `out` that a call writes
abbrev pub out_entries : ℕ
out_entries = 16

-- `out` with a call's numbers: at 0 the refusal's number or 0, at 1 and 2 its further numbers or 0, from 3 on the call's own numbers,
-- then 0; entries past these stay
abbrev pub out_with : List ℕ → List ℕ → List ℕ → List ℕ
out_with refusal numbers out = padded 3 refusal ++ (padded (out_entries - 3) numbers ++ drop out_entries out)

-- what a call returns, with `out` afterwards
pub record Call : Type 0 where
  pub returned : ℕ
  pub out : List ℕ

abbrev pub call_of : ℕ → List ℕ → Call
call_of returned out = record { returned = returned; out = out }

-- A call whose `out` has fewer than `out_entries` does nothing and returns 0.

-- price: 3 price
abbrev pub price_call_with : p.PriceReply → List ℕ → Call
price_call_with r out = call_of 1 (out_with r.refusal (r.price ∷ []) out)

unfoldable pub priced_call : p.PriceReply → List ℕ → Call
priced_call reply out = choose (ltb (length out) out_entries) (call_of 0 out) (price_call_with reply out)

abbrev pub price_call : ℕ → ℕ → ℕ → ℕ → ℕ → List ℕ → Call
price_call kind factor others capacity history out = priced_call (p.price_reply kind factor others capacity history) out

-- timed_price: the same for a sink of a timed job
abbrev pub timed_price_call : ℕ → ℕ → ℕ → ℕ → ℕ → ℕ → ℕ → List ℕ → Call
timed_price_call kind factor others capacity history delay criticality out =
    priced_call (timed_reply kind factor others capacity history delay criticality) out

-- search, with the work slice afterwards
pub record SearchCall : Type 0 where
  pub call : Call
  pub work : List ℕ

abbrev pub search_done : Call → List ℕ → SearchCall
search_done call work = record { call = call; work = work }

abbrev pub search_call_with : SearchReply → List ℕ → SearchCall
search_call_with r out = search_done (call_of 1 (out_with r.refusal [] out)) r.work

unfoldable pub searched_call : SearchReply → List ℕ → List ℕ → SearchCall
searched_call reply work out = choose (ltb (length out) out_entries) (search_done (call_of 0 out) work) (search_call_with reply out)

abbrev pub search_call : Block → Congestion → List ℕ → List ℕ → List ℕ → SearchCall
search_call b c marks work out = searched_call (search_reply b c marks work) work out

-- timed_search: the same for a sink of a timed job
abbrev pub timed_search_call : Block → Congestion → List ℕ → List ℕ → List ℕ → SearchCall
timed_search_call b c marks work out = searched_call (timed_search_reply b c marks work) work out

-- the terms of a job as one slice: 0 limit, 1 first, 2 up, 3 down, 4 step, 5 rule, 6 k, 7 timed where it isn't 0. An entry that the slice
-- lacks has its default: limit 0, which is refused, and what holds without a P, V or W line. Further entries are ignored
abbrev pub terms_of : List ℕ → Terms
terms_of ts =
    record {
      limit = get_or ts 0 0;
      tuning = record {
        first = get_or ts 1 plain.first;
        up = get_or ts 2 plain.up;
        down = get_or ts 3 plain.down;
        step = get_or ts 4 plain.step;
      };
      rule = get_or ts 5 (plain_terms 0).rule;
      until = get_or ts 6 (plain_terms 0).until;
      timed = leb 1 (get_or ts 7 0);
    }

-- route: 3 iteration, 4 turns, 5 words
pub record RouteCall : Type 0 where
  pub call : Call
  pub work : List ℕ
  pub log : List ℕ

abbrev pub route_done : Call → List ℕ → List ℕ → RouteCall
route_done call work log = record { call = call; work = work; log = log }

abbrev pub route_call_with : RouteReply → (further out : List ℕ) → RouteCall
route_call_with r further out =
    route_done (call_of 1 (out_with r.refusal (r.iteration ∷ r.turns ∷ r.used ∷ further) out)) r.work r.log

unfoldable pub routed_call : RouteReply → (further work log out : List ℕ) → RouteCall
routed_call reply further work log out =
    choose (ltb (length out) out_entries) (route_done (call_of 0 out) work log) (route_call_with reply further out)

abbrev pub route_call : Job → List ℕ → List ℕ → List ℕ → RouteCall
route_call j work log out = routed_call (route_reply j work log) [] work log out

-- resume: the same of a run that continues from the words used of the lent log
abbrev pub resume_call : Job → ℕ → List ℕ → List ℕ → List ℕ → RouteCall
resume_call j used work log out = routed_call (resume_reply j used work log) [] work log out

-- by the search that is chosen, these numbers and at 6 how many nodes were expanded in the turns that the call logged: those after the
-- lent ones
abbrev pub counted_call : Bool → Job → (lent : List Record) → RouteReply → (work log out : List ℕ) → RouteCall
counted_call aimed j lent reply work log out =
    routed_call reply (expanded_after aimed (joined j) lent (turns_logged reply) ∷ []) work log out

-- route_aimed: 3 iteration, 4 turns, 5 words, 6 nodes expanded
abbrev pub route_aimed_call : Job → List ℕ → List ℕ → List ℕ → RouteCall
route_aimed_call j work log out = counted_call true j [] (route_reply j work log) work log out

-- resume_aimed: the same of a run that continues
abbrev pub resume_aimed_call : Job → ℕ → List ℕ → List ℕ → List ℕ → RouteCall
resume_aimed_call j used work log out = counted_call true j (decode (take used log)) (resume_reply j used work log) work log out

-- audit: at 0 to 2 a refusal's numbers, or 18, word place and cost of the turn that is not cheapest; 3 turns, 4 whole iterations, 5 nodes
-- over capacity after the last of them, 6 the least cost of that turn; with the work slice afterwards. The log is only read
pub record AuditCall : Type 0 where
  pub call : Call
  pub work : List ℕ

abbrev pub audit_done : Call → List ℕ → AuditCall
audit_done call work = record { call = call; work = work }

abbrev pub audit_call_with : AuditReply → List ℕ → AuditCall
audit_call_with r out =
    audit_done (call_of 1 (out_with r.told (r.turns ∷ r.whole ∷ r.over ∷ get_or r.told 3 0 ∷ []) out)) r.work

unfoldable pub audited_call : AuditReply → (work out : List ℕ) → AuditCall
audited_call reply work out = choose (ltb (length out) out_entries) (audit_done (call_of 0 out) work) (audit_call_with reply out)

abbrev pub audit_call : Job → ℕ → List ℕ → List ℕ → List ℕ → AuditCall
audit_call j used work log out = audited_call (audit_reply j used work log) work out

-- read: 3 nodes, 4 edges, 5 nets, 6 sinks, 7 limit, 8 first, 9 up, 10 down, 11 step, 12 rule, 13 k, 14 timed
pub record ReadCall : Type 0 where
  pub call : Call
  pub tables : Tables

abbrev pub read_done : Call → Tables → ReadCall
read_done call tables = record { call = call; tables = tables }

abbrev pub read_call_with : ReadReply → List ℕ → ReadCall
read_call_with r out = read_done (call_of 1 (out_with r.refusal r.numbers out)) r.tables

unfoldable pub read_call : List ℕ → Tables → List ℕ → ReadCall
read_call text t out = choose (ltb (length out) out_entries) (read_done (call_of 0 out) t) (read_call_with (read_reply text t) out)

-- write: 3 bytes
pub record WriteCall : Type 0 where
  pub call : Call
  pub buffer : List ℕ

abbrev pub write_done : Call → List ℕ → WriteCall
write_done call buffer = record { call = call; buffer = buffer }

abbrev pub write_call_with : WriteReply → List ℕ → WriteCall
write_call_with r out = write_done (call_of 1 (out_with r.refusal (r.bytes ∷ []) out)) r.buffer

unfoldable pub written_call : WriteReply → List ℕ → List ℕ → WriteCall
written_call reply buffer out = choose (ltb (length out) out_entries) (write_done (call_of 0 out) buffer) (write_call_with reply out)

abbrev pub write_call : List ℕ → List ℕ → List ℕ → List ℕ → WriteCall
write_call sources log buffer out = written_call (write_reply sources log buffer) buffer out

-- dot: the same of the picture
abbrev pub dot_call : List ℕ → List ℕ → List ℕ → List ℕ → WriteCall
dot_call sources log buffer out = written_call (dot_reply sources log buffer) buffer out

-- A call whose `counts` have fewer than 54 entries does nothing and returns 0. Entries after the 54th are not read and stay.

-- uses_add: 3 logs, with `counts` afterwards; after a refusal both are those handed in
pub record AddCall : Type 0 where
  pub call : Call
  pub counts : List ℕ

abbrev pub add_done : Call → List ℕ → AddCall
add_done call counts = record { call = call; counts = counts }

abbrev pub add_call_with : AddReply → List ℕ → List ℕ → AddCall
add_call_with r counts out = add_done (call_of 1 (out_with r.refusal (r.counts.logs ∷ []) out)) (r.counts.uses ++ drop kind_count counts)

unfoldable pub add_call : Block → List ℕ → ℕ → List ℕ → List ℕ → AddCall
add_call b counts logs log out =
    choose (ltb (length counts) kind_count) (add_done (call_of 0 out) counts)
    (choose (ltb (length out) out_entries) (add_done (call_of 0 out) counts)
    (add_call_with (add_reply b (use_counts_of (take kind_count counts) logs) log) counts out))

-- uses_write: 3 bytes
unfoldable pub uses_call : Block → List ℕ → ℕ → List ℕ → List ℕ → WriteCall
uses_call b counts logs buffer out =
    choose (ltb (length counts) kind_count) (write_done (call_of 0 out) buffer)
    (written_call (print_reply b (use_counts_of (take kind_count counts) logs) buffer) buffer out)
