-- The files of laws, by subject. A folder beside them proves the function of its name. Those with a star speak of public definitions alone:
-- the crates above cite them and no others.
-- Laws that one module's proofs alone cite stand in its folder; the file NAME.antt beside the folder lists them.
--
-- Tables 1 to 4 and 9, the list of sinks, row 13
--   * BlockLaws       what each rule of a table says at an entry; edges by their places in table 4
--   * EdgeLaws        edges where tables 3 and 4 have their lengths but may break their rules
--   * TableOfLaws     tables with the edges of a test: those that both pairs of tables have, and those of the tables by target
--     ClampedLaws     numbers clamped within bounds, and the price over them
--   * KeptLaws        a function's answer and the test that it computes; a flag that is kept over a list; a test of every entry
--   * TableLaws       how the tests of the tables decide
--     TestedLaws      a test of tables as a result: what it refuses, and what it has shown
--   * RowLaws         a row of table 4 keeps its rule, by the places of the table
--   * PriceableLaws   what tests that pass have shown: lengths, sinks, a sound graph, prices within bounds and what the price answers
--     PassLaws        a test of every number below n, one more and by its parts; whether a node is bad
--
-- Paths, distances, turns: what they are
--   * DistinctLaws    a list with no entry twice has at most n entries below n
--   * WalkLaws        a walk's cost, its last step, its nodes; one with no node twice costs no more
--   * DistanceLaws    theorem: the distance is the least cost of a path, 2^64 − 1 exactly where there is none
--     PathLaws        a path built backwards, each node at its distance
--     BeforeLaws      the node before v
--   * PathToLaws      the path to a node: along edges, no node twice, at the distance's cost
--     NearestLaws     the unjoined sinks' distances, the least of them and its place
--   * TurnLaws        theorem: a turn joins by a cheapest path, and where it is stuck there is none
--     GraphLaws       distances and turns without capacities are the same
--     PriceSameLaws   prices that are the same on nodes make the same turn
--     EdgeSameLaws    edges that are the same between nodes make the same turn, and the same estimates
--
-- The aimed search
--   * AimedLaws       the estimate is a least cost and consistent; which nodes a turn expands, path and ties among them
--     AimedExact      why its two passes are right, over labels and settled nodes as functions
--     AimedSample     the definitions compute, on a block of five nodes
--     WeightLaws      what a node costs in an estimate, clamped: above 0 and at most the clamped price
--     AimedTurnLaws   a turn that aims, step by step: predecessors moved, and what its end says of the path
--     BucketLaws      the nodes that wait to spread their estimates, in buckets by their levels
--
-- The work slice
--     StoreLaws       a store at one place of a list
--     FillLaws        the first label of a node
--     QueueLaws       the tournament tree
--
-- The plain search (Dijkstra): labels and a binary heap
--     HeapLaws        a node rises to its place in the heap, and one sinks; an entry shared by a predecessor and a waiting node
--     SpreadSteps     what holds while labels spread, after an edge
--     SpreadRun       a row, and one node after the other
--     SpreadExact     which labels and predecessors are final
--     TrailLaws       a trail along predecessors is the path to a node
--     HaltLaws        what labels that have stopped say of the turn
--     JoinLaws        a turn, step by step
--
-- A whole call
--     ReadyLaws       where nothing is refused, every test has passed
--     SearchTestLaws  the tests before a search, and its reply
--     PathTestLaws    what the tests before a turn refuse, and what they have shown
--   * PathReplyLaws   the answer of a turn by its cases
--     AnswersHold     theorem: what the answers are in terms of paths alone
--   * AimedReplyLaws  the reply of the search that aims: a turn, a refusal, and the answer in terms of paths alone
-- Assumes nothing.
pub mod BlockLaws
pub mod EdgeLaws
pub mod TableOfLaws
pub mod KeptLaws
pub mod TableLaws
pub mod TestedLaws
pub mod RowLaws
pub mod PriceableLaws
pub mod PassLaws
pub mod ClampedLaws
pub mod DistinctLaws
pub mod WalkLaws
pub mod DistanceLaws
pub mod PathLaws
pub mod BeforeLaws
pub mod PathToLaws
pub mod NearestLaws
pub mod TurnLaws
pub mod GraphLaws
pub mod PriceSameLaws
pub mod AimedLaws
pub mod AimedExact
pub mod AimedSample
pub mod AimedTurnLaws
pub mod EdgeSameLaws
pub mod WeightLaws
pub mod StoreLaws
pub mod FillLaws
pub mod QueueLaws
pub mod BucketLaws
pub mod HeapLaws
pub mod SpreadSteps
pub mod SpreadRun
pub mod SpreadExact
pub mod TrailLaws
pub mod HaltLaws
pub mod JoinLaws
pub mod ReadyLaws
pub mod SearchTestLaws
pub mod PathTestLaws
pub mod PathReplyLaws
pub mod AnswersHold
pub mod AimedReplyLaws
