-- `search::search` meets its contract: the search of both kinds, without delays.
-- Assumes nothing.
use Rattle.search.proofs.SearchTestLaws.{untimed_reply}
use Rattle.search.proofs.search.Goals as goal

pub returns-clause-answers : goal.returns-clause-answers
returns-clause-answers c = untimed_reply _ _ _ _ _ _ c.searched.ensures.answers
