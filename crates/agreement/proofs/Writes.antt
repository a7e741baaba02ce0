-- Writes of actions that keep apart: neither changes what the other looks at, and they commute.
use mathlib.Core.Path.{◌≡◌, refl, sym, ap, ◌∙◌}
use mathlib.Core.Logic.{⊎_elim}
use mathlib.Core.Option.{Option, none, some}
use mathlib.Core.List.Memᴰ
use mathlib.Core.List.{List, [], ◌∷◌, ◌++◌, Memᴰ}
use Prim.Native.Nat.{ℕ}
use lib.Seq.{set_comm, get_or-set_other}
use Rattle.meaning.specs.Tree.{ChannelInput, AltOption, Action, stop, skip, sequence, parallel, assign, input, output, conditional, loop, alternation, block}
use Rattle.meaning.specs.State.{Store, Write, write_cell, write_place, write_output, write, write_all}
use Rattle.meaning.specs.Usage.{stands_in, stands_in_guards, changes_by, uses_by, of_guard, of_guards, changes, uses}
use Rattle.meaning.specs.Values.{Message}
use Rattle.agreement.proofs.Fit.{Apt}
use Rattle.agreement.proofs.Near.{Near, near-then, near_same}
use Rattle.agreement.proofs.Proper.{Owned}

-- ---- what is changed is used

guard-used : (o : Option ChannelInput) (a : ℕ) → Memᴰ a (of_guard changes_by o) → Memᴰ a (of_guard uses_by o)
guard-used none a h = h
guard-used (some i) a h = Memᴰ.append_left (stands_in i.subscript ++ stands_in i.target.subscript) h

guards-used : (bs : List AltOption) (a : ℕ) → Memᴰ a (of_guards changes_by bs) → Memᴰ a (of_guards uses_by bs)
guards-used [] a h = h
guards-used (b ∷ l) a h =
    ⊎_elim (λ (m : Memᴰ a (of_guard changes_by b.guard.input)). Memᴰ.append_left (of_guards uses_by l) (guard-used b.guard.input a m))
    (λ (m : Memᴰ a (of_guards changes_by l)). Memᴰ.append_right (of_guard uses_by b.guard.input) (guards-used l a m)) (Memᴰ.append_cases (of_guard changes_by b.guard.input) h)

pub changed-used : (k : Action) (a : ℕ) → Memᴰ a (changes k) → Memᴰ a (uses k)
changed-used stop a h = h
changed-used skip a h = h
changed-used sequence a h = h
changed-used parallel a h = h
changed-used (assign v e f) a h = Memᴰ.append_left (stands_in e ++ stands_in f) h
changed-used (input i) a h = Memᴰ.append_left (stands_in i.subscript ++ stands_in i.target.subscript) h
changed-used (output c e f) a h = absurd (Memᴰ.not-nil h)
changed-used (conditional ts) a h = absurd (Memᴰ.not-nil h)
changed-used (loop e b) a h = absurd (Memᴰ.not-nil h)
changed-used (alternation bs) a h = Memᴰ.append_right (stands_in_guards bs) (guards-used bs a h)
changed-used (block v) a h = h

module _ (source sink : ℕ → ℕ) where
  -- a write of one action leaves what the other looks at
  near-write : (k j : Action) → Apt k j → (w : Write) (x : Store) → Owned source sink k w → Near source sink j x (write w x)
  near-write k j p (write_cell a v) x h = record {
    cell = λ y q. sym (get_or-set_other x.cells a y v none (λ e. p.there y (Memᴰ.cast e h) q));
    place = λ y q. refl;
    list = λ y q. refl;
  }
  near-write k j p (write_place a v) x h = record {
    cell = λ y q. refl;
    place = λ y q. sym (get_or-set_other x.places a y v 0 (λ e. p.in-in (source y) (Memᴰ.cast (ap source e) h) q));
    list = λ y q. refl;
  }
  near-write k j p (write_output a v) x h = record {
    cell = λ y q. refl;
    place = λ y q. refl;
    list = λ y q. sym (get_or-set_other x.outputs a y v [] (λ e. p.out-out (sink y) (Memᴰ.cast (ap sink e) h) q));
  }

  -- two writes commute
  write-comm : (k j : Action) → Apt k j → (w u : Write) (x : Store) → Owned source sink k w → Owned source sink j u → write u (write w x) ≡ write w (write u x)
  write-comm k j p (write_cell a v) (write_cell c z) x h q =
      ap (λ (l : List Message). record { cells = l; places = x.places; outputs = x.outputs }) (set_comm x.cells a c v z (λ e. p.there a h (Memᴰ.cast e (changed-used j c q))))
  write-comm k j p (write_cell a v) (write_place c z) x h q = refl
  write-comm k j p (write_cell a v) (write_output c z) x h q = refl
  write-comm k j p (write_place a v) (write_cell c z) x h q = refl
  write-comm k j p (write_place a v) (write_place c z) x h q =
      ap (λ (l : List ℕ). record { cells = x.cells; places = l; outputs = x.outputs }) (set_comm x.places a c v z (λ e. p.in-in (source a) h (Memᴰ.cast (ap source e) q)))
  write-comm k j p (write_place a v) (write_output c z) x h q = refl
  write-comm k j p (write_output a v) (write_cell c z) x h q = refl
  write-comm k j p (write_output a v) (write_place c z) x h q = refl
  write-comm k j p (write_output a v) (write_output c z) x h q =
      ap (λ (l : List (List Message)). record { cells = x.cells; places = x.places; outputs = l }) (set_comm x.outputs a c v z (λ e. p.out-out (sink a) h (Memᴰ.cast (ap sink e) q)))

  -- each of some writes is one of the actions that A tells
  abbrev pub AllBy : (Action → Type 0) → List Write → Type 0
  AllBy A [] = Unit {0}
  AllBy A (w ∷ ws) = ((k : Action) × A k × Owned source sink k w) × AllBy A ws

  -- writes of actions that keep apart from j leave what j looks at
  pub near-writes : (A : Action → Type 0) (j : Action) → ((k : Action) → A k → Apt k j) → (ws : List Write) (x : Store) → AllBy A ws → Near source sink j x (write_all ws x)
  near-writes A j p [] x h = near_same source sink j x
  near-writes A j p (w ∷ ws) x h =
      near-then source sink j x (write w x) (write_all ws (write w x)) (near-write h.0.0 j (p h.0.0 h.0.1) w x h.0.2) (near-writes A j p ws (write w x) h.1)

  module _ (A B : Action → Type 0) (p : (k j : Action) → A k → B j → Apt k j) where
    write-writes : (w : Write) (us : List Write) (x : Store) → ((k : Action) × A k × Owned source sink k w) → AllBy B us → write_all us (write w x) ≡ write w (write_all us x)
    write-writes w [] x h g = refl
    write-writes w (u ∷ us) x h g = ap (write_all us) (write-comm h.0 g.0.0 (p h.0 g.0.0 h.1 g.0.1) w u x h.2 g.0.2) ∙ write-writes w us (write u x) h g.1

    -- writes of actions that keep apart commute
    pub writes-comm : (ws us : List Write) (x : Store) → AllBy A ws → AllBy B us → write_all us (write_all ws x) ≡ write_all ws (write_all us x)
    writes-comm [] us x h g = refl
    writes-comm (w ∷ ws) us x h g = writes-comm ws us (write w x) h.1 g ∙ ap (write_all ws) (write-writes w us x h.0 g)
