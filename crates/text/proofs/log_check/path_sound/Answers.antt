-- `text::log_check::path_sound` meets its contract: each test decides as the definition does.
-- Assumes nothing.
use Rattle.std.proofs.Common.{rules}
use Rattle.text.specs.Routes.{path_words, path_sound}
use Rattle.text.proofs.RecordTestLaws.{node_sound, all_every}
use Rattle.text.proofs.log_check.path_sound.Goals as goal

pub returns-then-nodes_below : goal.returns-then-nodes_below
unfolding path_sound
returns-then-nodes_below c =
    let below = all_every (node_sound c.args.nodes) (path_words c.args.n c.args.words.now) in
    search rules

pub returns-else-nodes_below : goal.returns-else-nodes_below
unfolding path_sound
returns-else-nodes_below c =
    let below = all_every (node_sound c.args.nodes) (path_words c.args.n c.args.words.now) in
    search rules
