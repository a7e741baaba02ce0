-- Every step keeps the data within bounds: no channel gives more than its values, no list outgrows the capacity of its channel. It holds of every table.
use mathlib.Core.Path.{◌≡◌, refl, sym, ap, subst, ◌∙◌}
use mathlib.Core.Bool.{Bool, true, false, ◌||◌, false≢true}
use mathlib.Core.Option.{some, none-ne-some}
use mathlib.Core.List.{List, [], ◌∷◌, ◌++◌}
use Prim.Native.Nat.{ℕ, zero, suc, ◌<◌, ◌≤◌}
use native.Mathlib.Omega.{arith}
use native.Mathlib.Decide.{dec_lt}
use lib.IntN.{ℤ}
use lib.ListN.{length, get_or, length-append, get_elem?}
use Rattle.meaning.specs.declared.Node.{Node}
use Rattle.meaning.specs.declared.Node.TheVariants.{Literal, Element, Monadic, Dyadic, Stop, Skip, Assignment, Input, Output, Seq, Par, If, While, Alt, Block, Member, Choice, OptionRow, Guard, Other}
use Rattle.meaning.specs.Basics.{if_else}
use Rattle.meaning.specs.Rows.{row_count}
use Rattle.meaning.specs.Declarations.{Variable, Channel, no_channel, sum_below, elements_at, host_channels_at, capacity_at, has_role, channel_at, sink_at}
use Rattle.meaning.specs.Nodes.{node_at}
use Rattle.meaning.specs.Tree.{Expr, Action, stop, skip, sequence, parallel, assign, input, output, conditional, loop, alternation, block, Process, Content, content_of, content_at, action_of, or_stop}
use Rattle.meaning.specs.Values.{Message}
use Rattle.meaning.specs.State.{Store, State, program, process_at, Write, write_cell, write_place, write_output, write, write_all, unset_all, Effect}
use Rattle.meaning.specs.Labels.{Label}
use Rattle.meaning.specs.Readings.{Sheet}
use Rattle.meaning.specs.Step.{Live, live, host-input, Allows, assignment, while-false, while-true, if-true, communication, host-read, host-write, alt-skip, alt-read, alt-communication, stopping}
use Rattle.meaning.proofs.UnsetLaws.{places-unset_all, outputs-unset_all}
use Rattle.agreement.specs.Coherence.{RowState}
use Rattle.agreement.proofs.KnownStates.{set_keeps, ChangesOk}
use Rattle.meaning.specs.ContentClaims.{higher_content}
use Rattle.agreement.proofs.TableTree.{part_at, part-past, process-is}
use Rattle.agreement.proofs.TableHosts.{same_row}

-- ---- the channel of an output is one that a row declares

module _ (rows : List ℤ) where
  abbrev Sink : Action → Type 0
  Sink stop = Unit {0}
  Sink skip = Unit {0}
  Sink sequence = Unit {0}
  Sink parallel = Unit {0}
  Sink (assign v e f) = Unit {0}
  Sink (input i) = Unit {0}
  Sink (output c e f) = (a : ℕ) × (c ≡ sink_at rows a)
  Sink (conditional ts) = Unit {0}
  Sink (loop e b) = Unit {0}
  Sink (alternation bs) = Unit {0}
  Sink (block v) = Unit {0}

  part-sink : (r : ℕ) (at : ℕ → Content) (k : Node) → Sink (action_of (or_stop (content_of rows r at k).process))
  part-sink r at (Literal x) = tt
  part-sink r at (Element a b) = tt
  part-sink r at (Monadic a b) = tt
  part-sink r at (Dyadic a b c) = tt
  part-sink r at Stop = tt
  part-sink r at Skip = tt
  part-sink r at (Assignment a b c) = tt
  part-sink r at (Input a b c) = tt
  part-sink r at (Output a b c) = (a, refl)
  part-sink r at (Seq a) = tt
  part-sink r at (Par a) = tt
  part-sink r at (If a) = tt
  part-sink r at (While a b) = tt
  part-sink r at (Alt a) = tt
  part-sink r at (Block a b) = tt
  part-sink r at (Member a b) = tt
  part-sink r at (Choice a b c) = tt
  part-sink r at (OptionRow a b c) = tt
  part-sink r at (Guard a b) = tt
  part-sink r at Other = tt

  every-sink : (r : ℕ) → Sink (action_of (process_at (program rows) r))
  every-sink r = rw (process-is rows r) (go (dec_lt r (row_count rows)))
    where
      go : Dec (r < row_count rows) → Sink (action_of (or_stop (content_at rows r).process))
      go (yes l) = rw (part_at rows r l) (part-sink r (higher_content rows r) (node_at rows r))
      go (no l) = rw (part-past rows r (omega arith)) tt

  -- of two such channels of the host with one number the capacity is one
  host-row : (a : ℕ) → (sink_at rows a).host ≡ true → (has_role 2 rows a ≡ true) × ((sink_at rows a).number ≡ sum_below (host_channels_at 2 rows) a)
  unfolding sink_at channel_at
  host-row a = go (has_role 0 rows a || has_role 2 rows a)
    where
      c : Channel
      c = record { first = sum_below (elements_at rows) a; size = elements_at rows a; host = has_role 2 rows a; number = sum_below (host_channels_at 2 rows) a; capacity = capacity_at rows a }

      go : (t : Bool) → (if_else t c no_channel).host ≡ true → (has_role 2 rows a ≡ true) × ((if_else t c no_channel).number ≡ sum_below (host_channels_at 2 rows) a)
      go true h = (h, refl)
      go false h = absurd (false≢true h)

  one-capacity : (r a : ℕ) → (sink_at rows r).host ≡ true → (sink_at rows a).host ≡ true → (sink_at rows a).number ≡ (sink_at rows r).number → (sink_at rows a).capacity ≡ (sink_at rows r).capacity
  one-capacity r a h k e =
      let (x, p) = host-row r h in
      let (y, q) = host-row a k in
      ap (λ (i : ℕ). (sink_at rows i).capacity) (same_row 2 rows a r y x (sym q ∙ e ∙ p))

-- a place that holds an entry is below the number of entries
entry-below : {A : Type 0} (l : List A) (n : ℕ) (v : A) → get_elem? l n ≡ some v → n < length l
entry-below [] n v e = absurd (none-ne-some v e)
entry-below (x ∷ l) zero v e = omega arith
entry-below (x ∷ l) (suc n) v e = omega (arith, entry-below l n v e)

module _ (rows : List ℤ) (sheet : Sheet) where
  -- the data are within bounds
  pub record Bounded (x : Store) : Type 0 where
    pub places-left : (c : ℕ) → get_or x.places c 0 ≤ length (get_or sheet c [])
    pub room-kept : (r : ℕ) → (sink_at rows r).host ≡ true → length (get_or x.outputs (sink_at rows r).number []) ≤ (sink_at rows r).capacity

  -- a change of data keeps within them
  abbrev WriteOk : Write → Type 0
  WriteOk (write_cell a v) = Unit {0}
  WriteOk (write_place c n) = n ≤ length (get_or sheet c [])
  WriteOk (write_output c l) = (r : ℕ) → (sink_at rows r).host ≡ true → c ≡ (sink_at rows r).number → length l ≤ (sink_at rows r).capacity

  abbrev pub WritesOk : List Write → Type 0
  WritesOk [] = Unit {0}
  WritesOk (w ∷ ws) = WriteOk w × WritesOk ws

  write-bounded : (w : Write) (x : Store) → WriteOk w → Bounded x → Bounded (write w x)
  write-bounded (write_cell a v) x h b = record { places-left = b.places-left; room-kept = b.room-kept }
  write-bounded (write_place c n) x h b =
      record {
        places-left = λ y. set_keeps (λ (m : ℕ). m ≤ length (get_or sheet y [])) 0 x.places c n y (b.places-left y) (λ e. subst (λ (z : ℕ). n ≤ length (get_or sheet z [])) e h);
        room-kept = b.room-kept;
      }
  write-bounded (write_output c l) x h b =
      record {
        places-left = b.places-left;
        room-kept = λ r k. set_keeps (λ (m : List Message). length m ≤ (sink_at rows r).capacity) [] x.outputs c l (sink_at rows r).number (b.room-kept r k) (h r k);
      }

  pub writes-bounded : (ws : List Write) (x : Store) → WritesOk ws → Bounded x → Bounded (write_all ws x)
  writes-bounded [] x h b = b
  writes-bounded (w ∷ ws) x h b = writes-bounded ws (write w x) h.1 (write-bounded w x h.0 b)

  -- to unset cells keeps within them
  pub unset-bounded : (vs : List Variable) (x : Store) → Bounded x → Bounded (unset_all vs x)
  unset-bounded vs x b =
      record {
        places-left = λ c. rw (places-unset_all vs x) (b.places-left c);
        room-kept = λ r h. rw (outputs-unset_all vs x) (b.room-kept r h);
      }

  -- what a step does
  abbrev pub EffectOk : Effect → Type 0
  EffectOk e = ChangesOk e.changes × WritesOk e.writes

  read_ok : (c n : ℕ) (v : Message) → get_elem? (get_or sheet c []) n ≡ some v → suc n ≤ length (get_or sheet c [])
  read_ok c n v e = entry-below (get_or sheet c []) n v e

  sink-of : (s : State) (r : ℕ) (c : Channel) (e f : Expr) → Live (program rows) s r (output c e f) → (a : ℕ) × (c ≡ sink_at rows a)
  sink-of s r c e f (live p z i) = subst (λ (q : Process). Sink rows (action_of q)) p (every-sink rows r)

  room-ok : (s : State) (r : ℕ) (c : Channel) (e f : Expr) → Live (program rows) s r (output c e f) → c.host ≡ true → (l : List Message) (z : Message) → length l < c.capacity → WriteOk (write_output c.number (l ++ (z ∷ [])))
  room-ok s r c e f g h l z m i k p =
      let (a, q) = sink-of s r c e f g in
      let same = one-capacity rows i a k (sym (ap (λ (d : Channel). d.host) q) ∙ h) (sym (ap (λ (d : Channel). d.number) q) ∙ p) in
      omega (arith, length-append l (z ∷ []), same, ap (λ (d : Channel). d.capacity) q)

  pub step_ok : (s : State) (x : Label) (e : Effect) → Allows (program rows) sheet s x e → EffectOk e
  step_ok s x t (assignment g p q) = ((RowState.ended, tt), (tt, tt))
  step_ok s x t (while-false g h) = ((RowState.ended, tt), tt)
  step_ok s x t (while-true g h) = ((RowState.running, tt), tt)
  step_ok s x t (if-true g h) = ((RowState.running, tt), tt)
  step_ok s x t (communication g k h w) = ((RowState.ended, (RowState.ended, tt)), (tt, tt))
  step_ok s x t (host-read {n} {i} {v} g (host-input a b c d e)) = ((RowState.ended, tt), (tt, (read_ok i.channel.number n v e, tt)))
  step_ok s x t (host-write {r} {c} {e} {f} {m = z} {l} g h p q o m) = ((RowState.ended, tt), (room-ok s r c e f g h l z m, tt))
  step_ok s x t (alt-skip g c m h q) = ((RowState.running, tt), tt)
  step_ok s x t (alt-read {n} {i} {v} g c m h q (host-input a b d f e)) = ((RowState.running, tt), (tt, (read_ok i.channel.number n v e, tt)))
  step_ok s x t (alt-communication g c m k h q w y) = ((RowState.running, (RowState.ended, tt)), (tt, tt))
  step_ok s x t (stopping {k} g h) = ((RowState.stopped k, tt), tt)
