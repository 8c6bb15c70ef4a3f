-- The files of laws, by subject. A folder beside them proves the function of its name.
--
-- Theorems that CLAIMS cites
--     SamplesHold   the starred samples about prices and factors
--     RunningHolds  request 2.4: the running products reach their bounds, never pass them, and the last is the price
--     OlderHolds    request 2.2: kinds 0 to 15 keep 01's base costs and prices
--
-- Prices
--     PriceLaws     bounds of base cost, price, path cost, factor and history; the factor's steps
--     ReplyLaws     the price where all five keep their bounds; what an answer with that reply is
--     TimedLaws     a timed price and one that is weighed or not: bounds, and what is answered past the five
--     TuningLaws    a tuning is sound exactly where each number keeps its bounds
--
-- Lists and tests, for every crate
--     TestLaws      tests that pass together; both, either, choose; of two numbers one is at most the other
--     ListLaws      every, neighbours, has, up_to, total, slices
--     BelowLaws     the lowest number that passes a test, and how many pass
--     EntryLaws     a list's least entry, and an entry's place
-- Assumes nothing.
pub mod SamplesHold
pub mod RunningHolds
pub mod OlderHolds
pub mod PriceLaws
pub mod ReplyLaws
pub mod TimedLaws
pub mod TuningLaws
pub mod TestLaws
pub mod ListLaws
pub mod BelowLaws
pub mod EntryLaws
