-- What proofs of other crates may cite.

-- ---- the jobs of a batch

-- there are as many as pairs of a key and a trie
pub use Rattle.flow_core.proofs.Given.{jobs_len}
-- the job of a number
pub use Rattle.flow_core.proofs.Given.{job_got}
-- the number of the job of a key and a trie
pub use Rattle.flow_core.proofs.Given.{number_there}
-- ---- a flight that may go on

-- key_of_flight: its key is one of those that are there
-- trie_of_flight: and its trie is one of the table
pub use Rattle.flow_core.proofs.OnWay.{key_of_flight, trie_of_flight}
-- place_in_key: the place that it reads lies within a key
-- byte_there: and the same place of its own key within the bytes of all keys
-- byte_is: the byte that stands there is the one that it reads
-- product_fits: the number of its key times the length of a key is at most that of the most keys and the longest ones
-- word_onward: at the place of its next word, for whatever byte, stands a word that leads on
-- leads_onward: a word that leads on leads the flight onward
pub use Rattle.flow_core.proofs.OnWay.{place_in_key, byte_there, byte_is, product_fits, word_onward, leads_onward}
-- what leads into a level of a trie leads into one that it has
pub use Rattle.flow_core.proofs.Flying.{level_there}
-- ---- a step of a machine that is lent

-- IsLent: what it has inside is what callers see, it may be stepped, and the slot is one of its own
-- lent: so it is of a machine that may be stepped, and of each slot below its number of slots
-- word_step: where a busy slot took a word, machine and rows are as after a step of the slot
-- word_others: the rows after those of the keys stayed
-- word_stands: where the word leads onward, the machine may be stepped again
-- job_taken: where an empty slot took the next job, machine and rows are as after a step of the slot
-- job_stands: and the machine may be stepped again
-- none_left: where no job is left, a step of an empty slot changes nothing
pub use Rattle.flow_core.proofs.Lent.{IsLent, lent, word_step, word_others, word_stands}
pub use Rattle.flow_core.proofs.Lent.{job_taken, job_stands, none_left}
-- a flight that a slot holds may go on
pub use Rattle.flow_core.proofs.Stepped.{flight_on_way}
-- ---- a run

-- one slot more
pub use Rattle.flow_core.proofs.RanBy.{run_more}
-- first_flown: what holds of every state holds of the first one
-- flown_step: a step keeps it
-- flown_run: and so does a run
-- from_first: so it holds after each run from the first state on
pub use Rattle.flow_core.proofs.Runs.{first_flown, flown_step, flown_run, from_first}
-- a step leaves as many slots as there were
pub use Rattle.flow_core.proofs.Runs.{same_width}
-- and so does a run
pub use Rattle.flow_core.proofs.Enough.{run_width}
-- where no job is left there is none of the next number
pub use Rattle.flow_core.proofs.Runs.{past_last}
-- turns-more: one turn more is each slot once more, after the turns before
-- turns_are_slots: turns are of slots that are there
pub use Rattle.flow_core.proofs.Enough.{turns-more, turns_are_slots}
-- Takes: the next word of a flight is that of its walk: it names the walk's row, or the flight goes on in its walk
-- takes: so it is of a flight in its walk
pub use Rattle.flow_core.proofs.Flying.{Takes, takes}
-- flies: the flight of a job that was just given out is in its walk
pub use Rattle.flow_core.proofs.Flying.{flies}
-- later: where one job more is given out, a flight in its walk still is
pub use Rattle.flow_core.proofs.Kept.{later}
-- ---- rows and verdicts

-- Begins: the numbers of keys and tries that the code works out, and the rows that it made zero
-- begun_state: a machine of these numbers with empty slots is in the first state
-- begun_rows: the rows are the old ones, of which those of the keys were made zero
-- begun_stands: where the keys fit, such a machine may be stepped
pub use Rattle.flow_core.proofs.Begin.{Begins, begun_state, begun_rows, begun_stands}
-- the verdicts of joined rows are those of the table
pub use Rattle.flow_core.proofs.Verdicts.{verdicts_of_rows}
-- the verdicts of one row more
pub use Rattle.flow_core.proofs.Verdicts.{row_written}
