-- What document 01 means, in the order of the paper. Read from the top.
-- Words, limits, bytes
pub mod Basics
pub mod Texts
pub mod Limits
-- The table: refusals, numbers and lines, refusals 2 and 3, rows, kinds, declarations, references
pub mod Refusals
pub mod Numerals
pub mod Lines
pub mod TableBytes
pub mod Rows
pub mod Kinds
pub mod Declarations
pub mod Nodes
pub mod References
-- What is right in a table, with no test and no order of looking: refusals 4, 5 and 6, and usage in a PAR, refusals 7, 8 and 9
pub mod Faults
pub mod Clash
pub mod MemberPairs
-- The same as tests, and the tree
pub mod Verdict
pub mod HigherRows
pub mod Tree
-- Values; and usage in a PAR as a test, which counts a constant subscript as its value
pub mod Values
pub mod Usage
-- Steps as rules: states, what a step is called, readings, settling, steps, orders
pub mod State
pub mod Labels
pub mod Readings
pub mod SettlingRules
pub mod Step
pub mod Order
-- Steps as the machine takes them: settling as a walk, what a row would do, ready steps, runs
pub mod Settle
pub mod Intent
pub mod Ready
pub mod Run
-- Readings and results: refusal 10, the lent buffers and how they are read back, the stages of a call, the whole answer, a traced run
pub mod Sheet
pub mod Buffers
pub mod Stages
pub mod Decode
pub mod Answers
pub mod Accepted
pub mod Trace
-- A run on paper
pub mod Printing
pub mod Runner
pub mod Marked
-- What is claimed of the definitions, each claim a type that a proof fills
pub mod PrintedForms
pub mod PrintedClaims
pub mod ByteClaims
pub mod StageClaims
pub mod ContentClaims
