-- The laws by subject, a line a file. Each file's head says what is in it; the folders beside hold one proof for each function of src/.
-- Laws that one module's proofs alone cite stand in its folder; the file NAME.antt beside the folder lists them.
--
-- Tables and jobs
--     RoutableLaws      what of a sound job routing rests on
-- Joined nets
--     TakingLaws        places that are taken in turn, but for a sink seen already
--     JoinLaws          the places that a joined net takes, no place twice
--     FirstListedLaws   each sink from the place that lists it first; criticalities from the same places
--     JoiningLaws       the loops over the nets, and the tables that they make
-- Lists and records
--     RecordLaws        records and their words: encode, decode, what fits a log
--     FilterLaws        the records of a net and of an iteration
--     MemberLaws        which entries a list has, and in what it lacks some
--     RegionLaws        whole records in a part of the log, as the loops pass them
--     LeavingLaws       users of nodes that are passed one after the other
--     FilledLaws        a list that a loop fills front to back
-- The test before iteration 1
--     FloodLaws         the flood from a source
-- The machine
--     OrderLaws         which sinks a turn tries: in a timed job the one whose turn it is
--     TreeLaws          a net's turns from its tree
--     NetLaws           a net in an iteration: cheapest paths, costs, no node twice, every sink joined; paths from a source
--     DueLaws           which nets an iteration takes: under rule 1, and up to iteration k, those with sinks
--     StateLaws         the machine's state, iteration by iteration
--     MachineRan        the machine's run is a run: bounds of histories and factor, its turns owned net by net
--     EndLaws           how a run ends that goes on from a progress
--     LimitLaws         such a run under two limits
--     KindLaws          a job's runs, and its replay of a lent log, with other kinds of the same base costs
--     CutLaws           a run cut in two ends as the whole run
-- Read off the log
--     RanLaws           runs of whole iterations, whoever made the turns: trees, users and histories read off their records are the state's
--     DemandLaws        a logged turn, the final trees, which sinks have a path
--     TurnReadLaws      a logged turn is the machine's at what is read off the log: sink, cost and path
--     AimedCountLaws    how many nodes turns expand: turn by turn, at most so many, and those of the machine's turns
-- A lent log
--     FollowLaws        one record that follows: what its test says, clause by clause; its words
--     ReplayLaws        what a replay comes to: a log that passes is a run, its words are the records', it has fewer iterations than the limit; where an audit ends
--     LentLaws          a lent turn that follows is legal at prices read off the turns before it, and its cost fits
--     OwnReplayLaws     a log whose turns follow, one after the other, at no more than the least cost, is taken up
--     LeastLaws         the least cost of a turn is a cheapest path's; a turn that costs no more is a cheapest one
--     OneSinkLaws       a cheapest path passes no other unjoined sink
--     SomeTurnLaws      an iteration that leaves a node overfull has a turn
--     OwnRunLaws        the machine's own log over such iterations is taken up
--     OwnAuditLaws      a beginning of such a log, cut behind any record, is sound
--     FrameLaws         a record's words apart from its path, and where the log has them
-- The reply
--     RefusalLaws       refusal by refusal
--     ReplyLogLaws      the log of a reply as the records whose words it holds
--     RouteLaws         what `route`, `resume` and `audit` answer, as their contracts say it
-- Theorems
--     DemandHolds       demand 3, and the bound on every logged cost
--     UnreachableHolds  what refusal 7 means
--     JoinedHolds       requests 2.3 and 2.9: joined nets; the joined job can be routed, and has paths where the listed one has
--     OlderHolds        requests 2.2 and 2.7: replies go by base costs; a job of 01's kinds makes its turns at 01's prices; rule 1 takes every net
--     FallingHolds      request 2.9: one sink is due, the first listed of the most critical that are not joined
--     LongerHolds       request 2.6: two limits, two log lengths
--     ResumeHolds       request 2.8: every resumed call: what is rebuilt, the lent words first, lent turns legal, the appended ones as demand 3 asks, costs within their bound
--     OwnResumeHolds    request 2.8: a job's own log ends as the straight run
--     AfterLimitHolds   request 2.8: so does the log of a run that refusal 9 ended, under a larger limit
--     AuditHolds        an audit of any log: of a sound one every turn as demand 3 asks, and the final trees; a turn that is not cheapest is legal, and a cheaper path exists
--     OwnAuditHolds     a job's own log is sound, as `route` and `resume` leave it
--     SamplesHold       the starred jobs, and one of request 2.9, timed and not
-- The routing loops
--     UserLaws          who uses a node: counts of nets by their trees
--     NextTriedLaws           what a turn tries, as the code finds it: one pass over a net's sinks, and a part of table 7
--     FoundLaws         what either search answers for a turn where nothing is refused
--     TurnStepLaws      a turn more of a net
--     KeepLaws          what holds at the head of each loop
--     KeepPlaces        where each net's tree stands in the log
--     KeepProgress      the lists over any progress: nets due, a tree dropped, grown and counted, histories moved on
--     KeepStart         that it holds where a run begins or goes on, nets due are marked and a net drops its old tree
--     KeepTurn          after a turn
-- Assumes nothing.
pub mod RoutableLaws
pub mod TakingLaws
pub mod JoinLaws
pub mod FirstListedLaws
pub mod JoiningLaws
pub mod RecordLaws
pub mod FilterLaws
pub mod MemberLaws
pub mod RegionLaws
pub mod LeavingLaws
pub mod FilledLaws
pub mod FloodLaws
pub mod OrderLaws
pub mod NextTriedLaws
pub mod TreeLaws
pub mod NetLaws
pub mod DueLaws
pub mod StateLaws
pub mod EndLaws
pub mod LimitLaws
pub mod KindLaws
pub mod CutLaws
pub mod RanLaws
pub mod MachineRan
pub mod DemandLaws
pub mod TurnReadLaws
pub mod FollowLaws
pub mod ReplayLaws
pub mod LentLaws
pub mod OwnReplayLaws
pub mod AimedCountLaws
pub mod LeastLaws
pub mod OneSinkLaws
pub mod SomeTurnLaws
pub mod OwnRunLaws
pub mod OwnAuditLaws
pub mod FrameLaws
pub mod RefusalLaws
pub mod ReplyLogLaws
pub mod RouteLaws
pub mod DemandHolds
pub mod UnreachableHolds
pub mod JoinedHolds
pub mod FallingHolds
pub mod OlderHolds
pub mod LongerHolds
pub mod ResumeHolds
pub mod OwnResumeHolds
pub mod AfterLimitHolds
pub mod AuditHolds
pub mod OwnAuditHolds
pub mod SamplesHold
pub mod UserLaws
pub mod FoundLaws
pub mod TurnStepLaws
pub mod KeepLaws
pub mod KeepPlaces
pub mod KeepProgress
pub mod KeepStart
pub mod KeepTurn
