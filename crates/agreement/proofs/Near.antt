-- What an action would do depends on the cells that it uses, and on the places and lists of host channels whose elements it inputs from or outputs to.
use mathlib.Core.Path.{◌≡◌, refl, sym, ap, ◌∙◌}
use mathlib.Core.Bool.{Bool, true, false}
use mathlib.Core.Option.{Option, none, some}
use mathlib.Core.List.Memᴰ
use mathlib.Core.List.{List, [], ◌∷◌, ◌++◌, Memᴰ}
use Prim.Native.Nat.{ℕ}
use lib.IntN.{ℤ}
use lib.ListN.{get_or, get_elem?}
use Rattle.meaning.specs.declared.Index.{Index}
use Rattle.meaning.specs.declared.Index.TheVariants.{At, Fails}
use Rattle.meaning.specs.Basics.{if_else}
use Rattle.meaning.specs.Declarations.{Channel}
use Rattle.meaning.specs.Tree.{Expr, literal, element, monadic, given, dyadic, no_expr, ChannelInput, IfChoice, AltOption, Action, stop, skip, sequence, parallel, assign, input, output, conditional, loop, alternation, block}
use Rattle.meaning.specs.Values.{Message, index, Sent, gives, lacking, cell_sent, value_sent, passed}
use Rattle.meaning.specs.State.{Store}
use Rattle.meaning.specs.Intent.{host_read, from_element, host_write, outputs_to, input_result_of, outputting, input_result, input_result_if, tests, options_result, intent}
use Rattle.meaning.specs.Usage.{counts_for, stands_in, stands_in_choices, stands_in_guards, changes_by, uses_by, inputs_by, of_guard, of_guards, uses, input_elements, output_elements}
use Rattle.meaning.specs.Readings.{Sheet}
use Rattle.agreement.proofs.Fit.{HostAt, GuardAt, GuardsAt, HostsAt}
use Rattle.agreement.proofs.Footprint.{Agree, agree_left, agree_right, index-counts, index-only, value-agree, index-agree}

-- the element of a host channel counts where a subscript means one
pub host-counts : (element_of : ℕ → ℕ) (c : Channel) → HostAt element_of c → c.host ≡ true → (cells : List (Option ℤ)) (e : Expr) (d : ℕ) → index cells c.first c.size e ≡ At d
    → Memᴰ (element_of c.number) (counts_for c.first c.size e)
host-counts element_of c H h cells e d q =
    let (f, one) = H h in
    Memᴰ.cast (sym f ∙ sym (index-only cells c.first c.size e d q one)) (index-counts cells c.first c.size e d q)

-- what an expression passes on depends on the cells that stand in it
sent-agree : (c d : List Message) (I : Index) → ((a : ℕ) → I ≡ At a → get_or c a none ≡ get_or d a none) → cell_sent c I ≡ cell_sent d I
sent-agree c d (At a) g = ap gives (g a refl)
sent-agree c d (Fails k) g = refl

module _ (c d : List Message) where
  passed-agree : (f : Expr) → Agree (stands_in f) c d → passed c f ≡ passed d f
  unfolding passed stands_in
  passed-agree (literal x) g = ap value_sent (value-agree c d (literal x) g)
  passed-agree (element v e) g =
      rw (← index-agree c d v.first v.size e (agree_right (counts_for v.first v.size e) (stands_in e) c d g))
      (sent-agree c d (index c v.first v.size e) (λ a q. g a (Memᴰ.append_left (stands_in e) (index-counts c v.first v.size e a q))))
  passed-agree (monadic op e) g = ap value_sent (value-agree c d (monadic op e) g)
  passed-agree (given v e) g = ap value_sent (value-agree c d (given v e) g)
  passed-agree (dyadic op e f) g = ap value_sent (value-agree c d (dyadic op e f) g)
  passed-agree no_expr g = ap value_sent (value-agree c d no_expr g)

-- ---- what is read of places and lists

receiving-near : (sheet : Sheet) (c : Channel) (I J : Index) (l m : List ℕ) → (c.host ≡ true → (e : ℕ) → I ≡ At e → get_or l c.number 0 ≡ get_or m c.number 0)
    → input_result_of sheet l c I J ≡ input_result_of sheet m c I J
receiving-near sheet c (Fails k) J l m g = refl
receiving-near sheet c (At e) (Fails k) l m g = refl
receiving-near sheet c (At e) (At a) l m g = go c.host refl
  where
    go : (t : Bool) → c.host ≡ t → if_else t (host_read c.number (get_or l c.number 0) a (get_elem? (get_or sheet c.number []) (get_or l c.number 0))) (from_element e a)
        ≡ if_else t (host_read c.number (get_or m c.number 0) a (get_elem? (get_or sheet c.number []) (get_or m c.number 0))) (from_element e a)
    go true h = ap (λ (n : ℕ). host_read c.number n a (get_elem? (get_or sheet c.number []) n)) (g h e refl)
    go false h = refl

sending-near : (r : ℕ) (c : Channel) (I : Index) (v : Sent) (l m : List (List Message)) → (c.host ≡ true → (e : ℕ) → I ≡ At e → get_or l c.number [] ≡ get_or m c.number [])
    → outputting r c l I v ≡ outputting r c m I v
sending-near r c (Fails k) v l m g = refl
sending-near r c (At e) (lacking k) l m g = refl
sending-near r c (At e) (gives v) l m g = go c.host refl
  where
    go : (t : Bool) → c.host ≡ t → if_else t (host_write r c (get_or l c.number []) v) (outputs_to e v) ≡ if_else t (host_write r c (get_or m c.number []) v) (outputs_to e v)
    go true h = ap (λ (k : List Message). host_write r c k v) (g h e refl)
    go false h = refl

module _ (source sink : ℕ → ℕ) where
  -- two stores are alike in what an action looks at
  pub record Near (k : Action) (x y : Store) : Type 0 where
    pub cell : Agree (uses k) x.cells y.cells
    pub place : (p : ℕ) → Memᴰ (source p) (input_elements k) → get_or x.places p 0 ≡ get_or y.places p 0
    pub list : (p : ℕ) → Memᴰ (sink p) (output_elements k) → get_or x.outputs p [] ≡ get_or y.outputs p []

  pub near-then : (k : Action) (x y z : Store) → Near k x y → Near k y z → Near k x z
  near-then k x y z g h = record { cell = λ p q. g.cell p q ∙ h.cell p q; place = λ p q. g.place p q ∙ h.place p q; list = λ p q. g.list p q ∙ h.list p q }

  pub near_same : (k : Action) (x : Store) → Near k x x
  near_same k x = record { cell = λ p q. refl; place = λ p q. refl; list = λ p q. refl }

  module _ (sheet : Sheet) (x y : Store) where
    abbrev Places : List ℕ → Type 0
    Places R = (p : ℕ) → Memᴰ (source p) R → get_or x.places p 0 ≡ get_or y.places p 0

    reception-near : (i : ChannelInput) → HostAt source i.channel → Agree (uses_by i) x.cells y.cells → Places (inputs_by i) → input_result sheet i x ≡ input_result sheet i y
    unfolding input_result
    reception-near i H g p =
        let c = i.channel in
        let t = i.target in
        let u = agree_right (changes_by i) (stands_in i.subscript ++ stands_in t.subscript) x.cells y.cells g in
        rw (
          index-agree x.cells y.cells c.first c.size i.subscript (agree_left (stands_in i.subscript) (stands_in t.subscript) x.cells y.cells u),
          index-agree x.cells y.cells t.name.first t.name.size t.subscript (agree_right (stands_in i.subscript) (stands_in t.subscript) x.cells y.cells u),
        )
        (receiving-near sheet c (index y.cells c.first c.size i.subscript) (index y.cells t.name.first t.name.size t.subscript) x.places y.places
        (λ h e q. p c.number (host-counts source c H h y.cells i.subscript e q)))

    guard-near : (o : Option ChannelInput) → GuardAt source o → Agree (of_guard uses_by o) x.cells y.cells → Places (of_guard inputs_by o) → input_result_if sheet o x ≡ input_result_if sheet o y
    guard-near none H g p = refl
    guard-near (some i) H g p = ap some (reception-near i H g p)

    looks-near : (bs : List AltOption) → GuardsAt source bs → Agree (stands_in_guards bs) x.cells y.cells → Agree (of_guards uses_by bs) x.cells y.cells → Places (of_guards inputs_by bs)
        → options_result sheet bs x ≡ options_result sheet bs y
    looks-near [] H a g p = refl
    looks-near (b ∷ l) H a g p =
        let o = b.guard.input in
        let e = b.guard.boolean in
        rw (
          value-agree x.cells y.cells e (agree_left (stands_in e) (stands_in_guards l) x.cells y.cells a),
          guard-near o H.0 (agree_left (of_guard uses_by o) (of_guards uses_by l) x.cells y.cells g) (λ q m. p q (Memᴰ.append_left (of_guards inputs_by l) m)),
          looks-near l H.1 (agree_right (stands_in e) (stands_in_guards l) x.cells y.cells a) (agree_right (of_guard uses_by o) (of_guards uses_by l) x.cells y.cells g)
              (λ q m. p q (Memᴰ.append_right (of_guard inputs_by o) m)),
        )

    tests-near : (r : ℕ) (ts : List IfChoice) → Agree (stands_in_choices ts) x.cells y.cells → tests sheet r ts x ≡ tests sheet r ts y
    tests-near r [] g = refl
    tests-near r (t ∷ l) g = rw (
      value-agree x.cells y.cells t.boolean (agree_left (stands_in t.boolean) (stands_in_choices l) x.cells y.cells g),
      tests-near r l (agree_right (stands_in t.boolean) (stands_in_choices l) x.cells y.cells g),
    )

    -- in stores that are alike in what it looks at, an action would do the same
    pub near : (k : Action) (r : ℕ) → HostsAt source sink k → Near k x y → intent sheet k r x ≡ intent sheet k r y
    unfolding intent
    near stop r H g = refl
    near skip r H g = refl
    near sequence r H g = refl
    near parallel r H g = refl
    near (assign v e f) r H g =
        let u = agree_right (counts_for v.first v.size e) (stands_in e ++ stands_in f) x.cells y.cells g.cell in
        rw (
          index-agree x.cells y.cells v.first v.size e (agree_left (stands_in e) (stands_in f) x.cells y.cells u),
          value-agree x.cells y.cells f (agree_right (stands_in e) (stands_in f) x.cells y.cells u),
        )
    near (input i) r H g = rw (reception-near i H g.cell g.place)
    near (output c e f) r H g =
        rw (
          index-agree x.cells y.cells c.first c.size e (agree_left (stands_in e) (stands_in f) x.cells y.cells g.cell),
          passed-agree x.cells y.cells f (agree_right (stands_in e) (stands_in f) x.cells y.cells g.cell),
        )
        (sending-near r c (index y.cells c.first c.size e) (passed y.cells f) x.outputs y.outputs (λ h d q. g.list c.number (host-counts sink c H h y.cells e d q)))
    near (conditional ts) r H g = tests-near r ts g.cell
    near (loop e b) r H g = rw (value-agree x.cells y.cells e g.cell)
    near (alternation bs) r H g =
        let u = agree_left (stands_in_guards bs) (of_guards uses_by bs) x.cells y.cells g.cell in
        rw (looks-near bs H u (agree_right (stands_in_guards bs) (of_guards uses_by bs) x.cells y.cells g.cell) g.place)
    near (block v) r H g = refl
