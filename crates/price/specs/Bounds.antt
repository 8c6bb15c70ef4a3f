-- The bounds of document 01 that prices rest on ("Tables and bounds", "Prices", row 13 of "Numbers for a stopped call"), with those of
-- requests 2.1, 2.2 and 2.9. How many edges, sinks and nets there may be stands with the rules of their tables.
-- Assumes nothing.
use Rattle.std.specs.Prelude.{ℕ, ◌+◌, ◌*◌}

-- "Kind 54 takes the place of 16 as the first refused code"
abbrev pub kind_most : ℕ
kind_most = 53

-- "factor (0 to 65,535)"
abbrev pub factor_most : ℕ
factor_most = 65535

-- "1 to 512 nets": all nets but the one that is routed
abbrev pub others_most : ℕ
others_most = 511

-- "capacity, a byte a node, 1 to 255"
abbrev pub capacity_most : ℕ
capacity_most = 255

-- "1 to 4,096 nodes"
abbrev pub nodes_most : ℕ
nodes_most = 4096

-- "The limit of iterations is 1 to 100"
abbrev pub limit_most : ℕ
limit_most = 100

-- request 2.1: "factor in iteration 2, 0 to 1,000"
abbrev pub first_most : ℕ
first_most = 1000

-- "growth up/down with down 1 to 4 and up from down to 8"
abbrev pub down_most : ℕ
down_most = 4

abbrev pub up_most : ℕ
up_most = 8

-- "history step 1 or 2"
abbrev pub step_most : ℕ
step_most = 2

-- the most that history grows by after one iteration: 512 users of a node of capacity 1, by a step of 2
abbrev pub history_gain : ℕ
history_gain = 1022

-- "13 allows history up to 101,179": what 99 iterations can add to 1
abbrev pub history_most : ℕ
history_most = 101179

-- "base cost .. reaches 1,000": that of a wire of 50 tiles
abbrev pub base_most : ℕ
base_most = 1000

-- the largest price under the bounds above
abbrev pub price_most : ℕ
price_most = history_most * base_most * (100 + factor_most * others_most)

-- a path's cost stays below this: "The new bound on a path's cost still fits 64 bits, with 2.1's step of 2 too"
abbrev pub path_most : ℕ
path_most = nodes_most * price_most + 1

-- request 2.9: "delay 0 to 1,000"
abbrev pub delay_most : ℕ
delay_most = 1000

-- "criticality 0 to 9 in tenths"
abbrev pub criticality_most : ℕ
criticality_most = 9

-- "A timed job has at most 1,024 nodes and a limit of at most 40."
abbrev pub timed_nodes_most : ℕ
timed_nodes_most = 1024

abbrev pub timed_limit_most : ℕ
timed_limit_most = 40

-- "takes history to 39,859": what 39 iterations can add to 1
abbrev pub timed_history_most : ℕ
timed_history_most = 39859

-- the largest price of a timed job: criticality 0 takes ten times the congestion price, which no delay makes up for
abbrev pub timed_price_most : ℕ
timed_price_most = 10 * (timed_history_most * base_most * (100 + factor_most * others_most))
