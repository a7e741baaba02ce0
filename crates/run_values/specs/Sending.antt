-- A message, and what an output passes, in the code's form.
use Rattle.std.proofs.Math.Option.{none, some}
use Rattle.std.specs.Prelude.{ℕ, ℤ, Option, Some, None, Result, Ok, Err}
use Rattle.meaning.specs.Values.{Message, Sent, gives, lacking}

-- a message in the code: a number, or none for the absence
abbrev pub CodeMessage : Type 0
CodeMessage = Option ℤ

-- the message that it is, and the code's form of a message
abbrev pub message_in : CodeMessage → Message
message_in (Some x) = some x
message_in None = none

abbrev pub coded : Message → CodeMessage
coded (some x) = Some x
coded none = None

-- a message or a reason, as what is sent
abbrev pub sent_in : Result CodeMessage ℕ → Sent
sent_in (Ok m) = gives (message_in m)
sent_in (Err k) = lacking k
