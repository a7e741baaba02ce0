-- Processes inside a process: two ways to say it, their rows, and what states that agree on those rows have in common.
use mathlib.Core.Path.{◌≡◌, refl, sym, ◌∙◌}
use mathlib.Core.List.Memᴰ
use mathlib.Core.List.{List, ◌∷◌, Memᴰ}
use Prim.Native.Nat.{ℕ}
use Rattle.meaning.specs.Tree.{Action, Process, node, Processes, also, row_of, rows_in, rows_beneath, empty}
use Rattle.meaning.specs.SettlingRules.{Among, Next, Inside}
use Rattle.agreement.proofs.Frame.{row_in}
use Rattle.agreement.proofs.Reach.{Agree, Sub, SubM, self, inside, front, back}

-- a process stands in another, as `Sub` says it
abbrev pub Within : Process → Process → Type 0
Within (node k r ms) p = Sub k r ms p

within-itself : (p : Process) → Within p p
within-itself (node k r ms) = self

member-within : (q : Process) (ms : Processes) → Among q ms → (k : Action) (r : ℕ) (ps : Processes) → q ≡ node k r ps → SubM k r ps ms
member-within q empty x'' k r ps e = elim x'' [ ]
member-within q (also p ms) Among.among_first k r ps e = front {p = q} (rw e self)
member-within q (also p ms) (Among.among_later a) k r ps e = back (member-within q ms a k r ps e)

-- what stands in a process that stands in another stands in that one
module _ {a : Action} {r : ℕ} {ms : Processes} {k : Action} {i : ℕ} {ps : Processes} (m : SubM k i ps ms) where
  mutual
    pub sub-under : (p : Process) → Sub a r ms p → Sub k i ps p
    sub-under (node k' r' qs) self = inside m
    sub-under (node k' r' qs) (inside h) = inside (sub_m-under qs h)

    sub_m-under : (qs : Processes) → SubM a r ms qs → SubM k i ps qs
    sub_m-under empty x'' = elim x'' [ ]
    sub_m-under (also p qs) (front h) = front (sub-under p h)
    sub_m-under (also p qs) (back h) = back (sub_m-under qs h)

within-member : (p q : Process) (a : Action) (r : ℕ) (ms : Processes) → Sub a r ms p → Among q ms → Within q p
within-member p (node k i ps) a r ms h m = sub-under (member-within (node k i ps) ms m k i ps refl) p h

pub within_of : {whole q : Process} → Inside whole q → Within q whole
within_of {whole} Inside.itself = within-itself whole
within_of {whole} (Inside.beneath {a} {r} {ms} {q} i m) = within-member whole q a r ms (within_of i) m

-- and what `Sub` says to stand in it, `Inside` does
module _ {whole : Process} {k : Action} {r : ℕ} {ms : Processes} where
  mutual
    inside-in : (p : Process) → Inside whole p → Sub k r ms p → Inside whole (node k r ms)
    inside-in (node k' r' ps) i self = i
    inside-in (node k' r' ps) i (inside h) = inside-among ps (λ q m. Inside.beneath i m) h

    inside-among : (ps : Processes) → ((q : Process) → Among q ps → Inside whole q) → SubM k r ms ps → Inside whole (node k r ms)
    inside-among empty f x4 = elim x4 [ ]
    inside-among (also p ps) f (front h) = inside-in p (f p Among.among_first) h
    inside-among (also p ps) f (back h) = inside-among ps (λ q m. f q (Among.among_later m)) h

pub inside_of : {whole : Process} {k : Action} {r : ℕ} {ms : Processes} → Sub k r ms whole → Inside whole (node k r ms)
inside_of {whole} h = inside-in whole Inside.itself h

-- the rows beneath a process are rows of each process that it stands in
module _ {k : Action} {r : ℕ} {ms : Processes} {x : ℕ} (m : Memᴰ x (r ∷ rows_beneath ms)) where
  mutual
    pub sub-rows : (p : Process) → Sub k r ms p → Memᴰ x (rows_in p)
    sub-rows (node k' r' ps) self = m
    sub-rows (node k' r' ps) (inside h) = Memᴰ.tail (sub_m-rows ps h)

    pub sub_m-rows : (ps : Processes) → SubM k r ms ps → Memᴰ x (rows_beneath ps)
    sub_m-rows empty x3 = elim x3 [ ]
    sub_m-rows (also p ps) (front h) = Memᴰ.append_left (rows_beneath ps) (sub-rows p h)
    sub_m-rows (also p ps) (back h) = Memᴰ.append_right (rows_in p) (sub_m-rows ps h)

pub among-row : {q : Process} {ms : Processes} → Among q ms → Memᴰ (row_of q) (rows_beneath ms)
among-row {q} (Among.among_first {ms}) = Memᴰ.append_left (rows_beneath ms) (row_in q)
among-row (Among.among_later {p} a) = Memᴰ.append_right (rows_in p) (among-row a)

pub next-among : {s : List ℕ} {q : Process} {ms : Processes} → Next s q ms → Among q ms
next-among Next.next_here = Among.among_first
next-among (Next.next-after e x) = Among.among_later (next-among x)

module _ (s t : List ℕ) where
  pub next_agree : {q : Process} (ms : Processes) → Agree (rows_beneath ms) s t → Next t q ms → Next s q ms
  next_agree {q = q} empty g x'' = elim x'' [ ]
  next_agree (also p ms) g Next.next_here = Next.next_here
  next_agree (also p ms) g (Next.next-after e x) =
      Next.next-after (sym (g (row_of p) (Memᴰ.append_left (rows_beneath ms) (row_in p))) ∙ e) (next_agree ms (λ y q. g y (Memᴰ.append_right (rows_in p) q)) x)
