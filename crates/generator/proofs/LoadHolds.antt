-- Every load is sound, the reader takes its text for it and gives its tables back, and the text fits the router's buffer.
-- Assumes nothing.
use Rattle.std.proofs.Common.{◌≡◌, ℕ, ◌≤◌, false, length, refl, arith}
use Rattle.price.proofs.ListLaws.{length_up_to}
use Rattle.job.specs.Job.{nodes}
use Rattle.job.specs.Tables.{exceeds}
use Rattle.text.specs.Printed.{shortest, PrintedAs}
use Rattle.text.specs.Accepted.{AllowedText}
use Rattle.text.proofs.SizeLaws.{router_long}
use Rattle.text.proofs.TextHolds.{reader_exact}
use Rattle.generator.specs.Load.{rows_from, nets_from, load_sink, load_job, load_text}
use Rattle.generator.specs.Taken.{LoadTaken}
use Rattle.generator.proofs.RowLaws.{rows_few}
use Rattle.generator.proofs.LoadLaws.{node-count, net-count, load_sound}
use Rattle.generator.proofs.LoadTextLaws.{load_size}

module _ (seed n count : ℕ) (least : 8 ≤ n) (most : n ≤ 256) (some : 1 ≤ count) (few : count ≤ 64) where
  printed : PrintedAs (load_text seed n count) (load_job seed n count)
  unfolding load_text load_job
  printed =
      record {
        form = shortest;
        allowed = record { tuning = refl; rule = (refl, refl) };
        is = refl;
        no_delays = λ e. refl;
        no_criticalities = λ e. refl;
      }

  edges_few : length (load_job seed n count).block.edge_targets ≤ 768
  unfolding load_job
  edges_few = omega (arith, rows_few (rows_from seed n) n n)

  sinks-few : length (load_job seed n count).sinks ≤ 64
  unfolding load_job
  sinks-few = omega (arith, length_up_to (load_sink (nets_from seed n) n) count)

  -- an untimed job exceeds no bound, and needs no entry of tables 9 and 10
  within : exceeds (nodes (load_job seed n count)) (load_job seed n count).terms ≡ false
  unfolding exceeds load_job
  within = refl

  no_delays : length (load_job seed n count).delays ≡ 0
  unfolding load_job
  no_delays = refl

  no_criticalities : length (load_job seed n count).criticalities ≡ 0
  unfolding load_job
  no_criticalities = refl

  allowed : AllowedText (load_text seed n count) (load_job seed n count)
  allowed = record { written = record { sound = load_sound seed n count least most some few; printed = printed }; within = within }

  pub load_taken : LoadTaken seed n count
  load_taken =
      let size = load_size seed n count least most some few in
      let nodes_are = node-count seed n count in
      let nets_are = net-count seed n count in
      record {
        allowed = allowed;
        given_back = λ t long. (reader_exact (load_text seed n count) t).all (load_job seed n count) allowed long;
        enough = λ t r.
            router_long (load_job seed n count) t r (omega arith) (omega (arith, edges_few)) (omega arith) (omega (arith, sinks-few)) no_delays no_criticalities;
        fits = omega arith;
      }
