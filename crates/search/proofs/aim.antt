-- Laws that the proofs of `search::aim` alone cite.
--     ListedLaws        whether the tables by target have an edge
--     ShortenLaws       the stores of a shorter way
--     BestLaws          the least distances of an unjoined sink, and of a node that lacks an estimate, so far
--     AimRows           the edges of a node, one after the other
-- Assumes nothing.
pub mod ListedLaws
pub mod ShortenLaws
pub mod BestLaws
pub mod AimRows
