-- `put_refusal` meets its contract.
-- Assumes nothing.
use Rattle.std.proofs.Common.{rules}
use Rattle.text.proofs.LineReplyLaws.{line-put}
use Rattle.generator.proofs.put_refusal.Goals as goal

pub returns : goal.returns
returns c = line-put 88 _ c.print_line.ensures.answers (search rules)
