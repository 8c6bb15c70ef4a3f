-- Document 01, "Job text", with the P line of request 2.1, the V line of 2.7 and 2.8 and the timed jobs of 2.9: a job's printed forms, line
-- by line in 01's order.
-- Assumes nothing.
use Rattle.std.specs.Prelude.{Bool, true, false, List, [], ◌∷◌, ◌++◌, ◌≡◌, ℕ, zero, suc, length, get_or, drop}
use Rattle.price.specs.Test.{choose}
use Rattle.price.specs.Tuning.{plain}
use Rattle.price.specs.declared.Tuning.{Tuning}
use Rattle.search.specs.Block.{row}
use Rattle.job.specs.Job.{Job, nodes, nets, source, net_sinks, net_criticalities}
use Rattle.job.specs.declared.Terms.{Terms}
use Rattle.text.specs.Lines.{letter_f, letter_p, letter_v, letter_w, letter_n, letter_e, letter_s, letter_t, print_line}

-- the texts of m, m + 1, .., one after the other, this many of them
unfoldable pub concat_from : (ℕ → List ℕ) → ℕ → ℕ → List ℕ
concat_from f m zero = []
concat_from f m (suc k) = f m ++ concat_from f (suc m) k

-- a line for each entry, with the same first field
unfoldable pub each_line : ℕ → ℕ → List ℕ → List ℕ
each_line letter first [] = []
each_line letter first (x ∷ xs) = print_line letter (first ∷ x ∷ []) ++ each_line letter first xs

-- a number that only lines of timed jobs have
abbrev pub further : Bool → ℕ → List ℕ
further timed number = choose timed (number ∷ []) []

-- "`N,node,kind,capacity` in order", in timed jobs with "a fourth number, delay"
unfoldable pub node_text : Job → ℕ → List ℕ
node_text j v =
    print_line letter_n
    (v ∷ get_or j.block.kinds v 0 ∷ get_or j.block.capacities v 0 ∷ further j.terms.timed (get_or j.delays v 0))

-- "`E,from,to` rising by from, then to"
unfoldable pub row_text : Job → ℕ → List ℕ
row_text j u = each_line letter_e u (row j.block u)

-- a T line for each sink, in timed jobs with "a third, criticality", which stands at the same place of another list
unfoldable pub sink_lines : Bool → ℕ → List ℕ → List ℕ → List ℕ
sink_lines timed i [] cs = []
sink_lines timed i (s ∷ ss) cs = print_line letter_t (i ∷ s ∷ further timed (get_or cs 0 0)) ++ sink_lines timed i ss (drop 1 cs)

-- "per net in order `S,net,node`, then one or more `T,net,node`"
unfoldable pub net_text : Job → ℕ → List ℕ
net_text j i =
    print_line letter_s (i ∷ source j i ∷ []) ++ sink_lines j.terms.timed i (net_sinks j i) (net_criticalities j i)

-- how a V line is written: not at all, with the rule alone, or with rule and k
pub data RuleForm : Type 0 where
  unwritten : RuleForm
  alone : RuleForm
  whole : RuleForm

-- which of the lines that may be left out are written, and how
pub record Form : Type 0 where
  pub tuning : Bool
  pub rule : RuleForm

-- the form without any of them
abbrev pub shortest : Form
shortest = record { tuning = false; rule = unwritten }

-- a line, where it is written
unfoldable pub line_if : Bool → ℕ → List ℕ → List ℕ
line_if written letter vs = choose written (print_line letter vs) []

-- "A line `P,first,up,down,step` may follow F"
abbrev pub tuning_text : Bool → Tuning → List ℕ
tuning_text written g = line_if written letter_p (g.first ∷ g.up ∷ g.down ∷ g.step ∷ [])

-- "A line `V,1` or `V,2` may follow F and any P."; it "may have a second number, `V,2,k`"
abbrev pub rule_text : RuleForm → ℕ → ℕ → List ℕ
rule_text unwritten rule until = []
rule_text alone rule until = print_line letter_v (rule ∷ [])
rule_text whole rule until = print_line letter_v (rule ∷ until ∷ [])

-- "A line `W` after F and any P and V makes a job timed.", so it stands exactly where the job is
unfoldable pub terms_text : Form → Terms → List ℕ
terms_text form t =
    tuning_text form.tuning t.tuning ++ (rule_text form.rule t.rule t.until ++ line_if t.timed letter_w [])

-- a line may be left out only where it says what holds without it
abbrev pub Written : {A : Type 0} → Bool → A → A → Type 0
Written true without x = Unit {0}
Written false without x = x ≡ without

-- "Under rule 1, or without the line"; "`V,2` alone means k = 1, `V,1` takes none". So rule 1 with a k above 1 has no form
abbrev pub RuleWritten : RuleForm → ℕ → ℕ → Type 0
RuleWritten unwritten rule until = (rule ≡ 1) × (until ≡ 1)
RuleWritten alone rule until = until ≡ 1
RuleWritten whole rule until = rule ≡ 2

-- "Without the line it is 50,3,2,1."
pub record Allowed (form : Form) (t : Terms) : Type 0 where
  pub tuning : Written form.tuning plain t.tuning
  pub rule : RuleWritten form.rule t.rule t.until

-- "`F,nodes,edges,nets,limit`", the lines that are written of those that may be left out, then nodes, edges and nets; "end of text"
unfoldable pub print_job : Form → Job → List ℕ
print_job form j =
    print_line letter_f (nodes j ∷ length j.block.edge_targets ∷ nets j ∷ j.terms.limit ∷ [])
    ++ (terms_text form j.terms
    ++ (concat_from (node_text j) 0 (nodes j) ++ (concat_from (row_text j) 0 (nodes j) ++ concat_from (net_text j) 0 (nets j))))

-- the text is a printed form of the job; that of an untimed job has neither delays nor criticalities
pub record PrintedAs (bs : List ℕ) (j : Job) : Type 0 where
  pub form : Form
  pub allowed : Allowed form j.terms
  pub is : bs ≡ print_job form j
  pub no_delays : j.terms.timed ≡ false → j.delays ≡ []
  pub no_criticalities : j.terms.timed ≡ false → j.criticalities ≡ []
