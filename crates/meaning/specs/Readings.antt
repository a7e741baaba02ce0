-- What the role 1 channels give: the values of an accepted sheet.
use Rattle.std.specs.Prelude.{List}
use Rattle.meaning.specs.Values.{Message}

-- the readings: for each role 1 channel the values of the lines, none where a reading is absent
abbrev pub Sheet : Type 0
Sheet = List (List Message)
