-- What the machine notes of rows at work, in four lists of numbers: of each row what it would do (what, where, and which cell, or of an output its message's mark: three numbers) and the number that it hands over; of each channel element
-- who waits there to input and who waits to output (a row and 1, or 0); and the rows that have a ready step, as bits. What is done to the lists is said of all contents.
-- What a note is: 0 waits; 1 stops for a reason; 2 assigns; 3 ends; 4 starts a row; 5 reads from the host; 6 writes to the host; 7 inputs from an element; 8 outputs to an element; 9 looks at its options.
use Rattle.std.specs.Prelude.{List, [], ◌∷◌, ℕ, ◌+◌, ◌-◌, ◌*◌, ◌%◌, ℤ, pos, get_or, set, replicate, eqb}
use Rattle.meaning.specs.Basics.{if_else}
use Rattle.meaning.specs.Tree.{AltOption, action_of}
use Rattle.meaning.specs.State.{program, process_at}
use Rattle.run_ready_bits.specs.Bits.{no_rows, raised, lowered}
use Rattle.meaning.specs.Buffers.{mark, number_in}
use Rattle.run_values.specs.Sending.{CodeMessage, message_in}
use Rattle.run_intents.specs.declared.Does.{Does}
use Rattle.run_intents.specs.declared.Does.TheVariants.{Waits, Stops, Assigns, Ends, Starts, Reads, Writes, InputsFrom, OutputsTo, Selects}
use Rattle.run_intents.specs.Stands.{options_of}
use Rattle.run_notes.specs.declared.Note.{Note}
use Rattle.run_notes.specs.declared.Notes.{Notes}

-- the four lists
abbrev pub lists_of : List ℕ → List ℤ → List ℕ → List ℕ → Notes
lists_of a s e b = record { acts = a; sent = s; elements = e; bits = b }

-- nothing is noted
abbrev pub no_notes : Notes
no_notes = lists_of (replicate 3072 0) (replicate 1024 (pos 0)) (replicate 512 0) no_rows

-- what a row would do, as numbers; numbers too large for a note are cut
abbrev pub note : ℕ → ℕ → ℕ → ℤ → Note
note w p c x = record { what = w; at = p; third = c; number = x }

abbrev pub short : ℕ → ℕ
short n = n % 65536

-- an output: its message's mark and number
abbrev pub output_note : ℕ → ℕ → CodeMessage → Note
output_note w p m = note w (short p) (mark (message_in m)) (number_in (message_in m))

abbrev pub note_numbers : Does → Note
note_numbers Waits = note 0 0 0 (pos 0)
note_numbers (Stops k) = note 1 k 0 (pos 0)
note_numbers (Assigns a x) = note 2 0 (short a) x
note_numbers Ends = note 3 0 0 (pos 0)
note_numbers (Starts q) = note 4 (short q) 0 (pos 0)
note_numbers (Reads a p) = note 5 (short p) (short a) (pos 0)
note_numbers (Writes p m) = output_note 6 p m
note_numbers (InputsFrom e a) = note 7 (short e) (short a) (pos 0)
note_numbers (OutputsTo e m) = output_note 8 e m
note_numbers Selects = note 9 0 0 (pos 0)

-- the note of row r becomes n
abbrev pub acts_stored : List ℕ → ℕ → Note → List ℕ
acts_stored l r n = set (set (set l (3 * r) n.what) (3 * r + 1) n.at) (3 * r + 2) n.third

abbrev pub stored : ℕ → Note → Notes → Notes
stored r n m = lists_of (acts_stored m.acts r n) (set m.sent r n.number) m.elements m.bits

-- what the note of row r is, and where
abbrev pub what_of : Notes → ℕ → ℕ
what_of m r = get_or m.acts (3 * r) 0

abbrev pub where_of : Notes → ℕ → ℕ
where_of m r = get_or m.acts (3 * r + 1) 0

-- who waits at element e to input, and to output
abbrev pub receiver_at : Notes → ℕ → ℕ
receiver_at m e = get_or m.elements (2 * (e % 256)) 0

abbrev pub sender_at : Notes → ℕ → ℕ
sender_at m e = get_or m.elements (2 * (e % 256) + 1) 0

abbrev pub receiving : ℕ → ℕ → Notes → Notes
receiving e n m = lists_of m.acts m.sent (set m.elements (2 * (e % 256)) n) m.bits

abbrev pub sending : ℕ → ℕ → Notes → Notes
sending e n m = lists_of m.acts m.sent (set m.elements (2 * (e % 256) + 1) n) m.bits

-- row j has a ready step, or none
abbrev pub raising : ℕ → Notes → Notes
raising j m = lists_of m.acts m.sent m.elements (raised m.bits j)

abbrev pub lowering : ℕ → Notes → Notes
lowering j m = lists_of m.acts m.sent m.elements (lowered m.bits j)

-- row r waits to input at element e, by itself or for its option j, which is ready if someone outputs there
unfoldable pub wait_input : ℕ → ℕ → ℕ → Notes → Notes
wait_input r j e m = let l = receiving e (r + 1) m in if_else (eqb (sender_at l e) 0) l (raising j l)

-- each of these options that inputs from element e is ready
abbrev pub wake_option : ℕ → ℕ → Notes → Notes
wake_option e j m = if_else (eqb (what_of m j) 7) (if_else (eqb (where_of m j) e) (raising j m) m) m

unfoldable pub wake_options : ℕ → List AltOption → Notes → Notes
wake_options e [] m = m
wake_options e (b ∷ bs) m = wake_options e bs (wake_option e b.row m)

-- the note of row j is taken off: it waits nowhere, and has no ready step
unfoldable pub leave_element : ℕ → Notes → Notes
leave_element j m =
    if_else (eqb (what_of m j) 7) (receiving (where_of m j) 0 m)
    (if_else (eqb (what_of m j) 8) (sending (where_of m j) 0 m)
    m)

unfoldable pub leave_note : ℕ → Notes → Notes
leave_note j m = stored j (note_numbers Waits) (lowering j (leave_element j m))

unfoldable pub leave_options : List AltOption → Notes → Notes
leave_options [] m = m
leave_options (b ∷ bs) m = leave_options bs (leave_note b.row m)

-- the note of a row, and the lists as they are then
pub record Noted : Type 0 where
  pub note : Note
  pub lists : Notes

abbrev pub noted_of : Note → Notes → Noted
noted_of n m = record { note = n; lists = m }

module _ (rows : List ℤ) where
  -- the options of row r
  unfoldable pub options_at : ℕ → List AltOption
  options_at r = options_of (action_of (process_at (program rows) r))

  -- row i, which waits at element e to input, has a step now that someone outputs there: by itself, or for its options
  unfoldable pub wake : ℕ → ℕ → Notes → Notes
  wake e i m = if_else (eqb (what_of m i) 9) (wake_options e (options_at i) m) (raising i m)

  -- row r waits to output at element e, and wakes who waits there
  unfoldable pub wait_output : ℕ → ℕ → Notes → Notes
  wait_output r e m = let l = sending e (r + 1) m in if_else (eqb (receiver_at l e) 0) l (wake e ((receiver_at l e - 1) % 1024) l)

  -- the note of row j, row r itself or its option, is n
  unfoldable pub note_as : ℕ → ℕ → Note → Notes → Notes
  note_as r j n m =
      let l = stored j n m in
      if_else (eqb n.what 0) l
      (if_else (eqb n.what 7) (wait_input r j n.at l)
      (if_else (eqb n.what 8) (wait_output j n.at l)
      (raising j l)))

  -- the options of ALT r, each noted as f says, and the note of the ALT; where one lacks a value, that is the note of the ALT, and no option is noted
  abbrev pub offer_noted : ℕ → ℕ → Note → Noted → Noted
  offer_noted r j n z = if_else (eqb z.note.what 1) z (noted_of z.note (note_as r j n z.lists))

  unfoldable pub note_options : (AltOption → Note) → ℕ → List AltOption → Notes → Noted
  note_options f r [] m = noted_of (note_numbers Selects) m
  note_options f r (b ∷ bs) m = let n = f b in if_else (eqb n.what 1) (noted_of n m) (offer_noted r b.row n (note_options f r bs m))

  -- ALT r is noted: it has a step by itself only where a value is lacking
  unfoldable pub note_alt : (AltOption → Note) → ℕ → Notes → Notes
  note_alt f r m =
      let z = note_options f r (options_at r) m in
      let l = stored r z.note z.lists in
      if_else (eqb z.note.what 1) (raising r l) l

  -- row r is noted, which would do n; f is what its options would do
  unfoldable pub note_row : (AltOption → Note) → ℕ → Note → Notes → Notes
  note_row f r n m = if_else (eqb n.what 9) (note_alt f r m) (note_as r r n m)

  -- the notes of row r and of its options are taken off
  unfoldable pub leave_offers : ℕ → Notes → Notes
  leave_offers r m = if_else (eqb (what_of m r) 9) (leave_options (options_at r) m) m

  unfoldable pub leave_row : ℕ → Notes → Notes
  leave_row r m = leave_note r (leave_offers r m)
