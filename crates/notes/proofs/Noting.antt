-- What is noted on a path, as the code notes it and looks it up. Assumes nothing.
use mathlib.Core.Path.{◌≡◌, refl, sym, ap, subst, ◌∙◌}
use mathlib.Core.Bool.{Bool, true, false, not}
use mathlib.Core.List.{List, [], ◌∷◌}
use Prim.Native.Nat.{ℕ, zero, suc, ◌+◌, ◌-◌, ◌<◌}
use native.Mathlib.Omega.{arith}
use native.Mathlib.Decide.{dec_lt}
use borrow.Author.Tests.{eqb-true, eqb-false, not-false}
use lib.Dec.{eqb}
use lib.ListN.{length, get_or, take, drop, set, replicate, length-set, get_or-eq_default}
use lib.Seq.{get_or-set_same, get_or-set_other, take-nil, drop-drop}
use types.Run.{OneOf}
use denote.Enum.Declared.{tag_of}
use Rattle.std.specs.Prelude.{Option as Maybe, Some, None}
use Rattle.value.specs.contracts.Shape.{the_type}
use Rattle.cedar.specs.Rows.{Row, rrec}
use Rattle.cedar.specs.Numbered.{entry_of, r_rec}
use Rattle.words.specs.Log.{part}
use Rattle.sheet.specs.Forms.{items, VALUE}
use Rattle.sheet.specs.State.{entries_of}
use Rattle.table.specs.Layout.{base, heap}
use Rattle.table.proofs.Rows.{row_some, row_at_is}
use Rattle.value.specs.Lines.{value_lines}
use Rattle.value.specs.Shapes.{shape_of, shape_row, value_found}
use Rattle.value.proofs.Shaped.{row_given}
use Rattle.value.specs.declared.Shape.{Shape}
use Rattle.value.specs.declared.Shape.TheVariants.{Entity, Record}
use Rattle.lookup.specs.Lookups.{value_in, part_of, part_in, look_found, look_row, look_attr}
use Rattle.notes.specs.Leaps.{rising}
use Rattle.notes.specs.Noted.{look_part, Stands, Spans, Noted, Placed, Looked}
use Rattle.notes.specs.declared.Span.{Span}
use Rattle.notes.specs.declared.TheConstants.{NOWHERE}
use Rattle.lookup.specs.declared.Part.{Part}
use Rattle.lookup.specs.declared.Part.TheVariants.{Known, Empty, Unknown}
use Rattle.lookup.specs.declared.Look.{Look}
use Rattle.lookup.specs.declared.Look.TheVariants.{At as Atˡ, Missing, Unknown as Unknownˡ, Bad}
use Rattle.lookup.proofs.Shapes.{value_shape}
use Rattle.lookup.proofs.Finds.{attr_other, attr_entity}

-- ---- where the entries of a record stand

take_items : (n : ℕ) (l : List ℕ) → drop 1 (take n l) ≡ take (n - 1) (drop 1 l)
take_items zero l = refl
take_items (suc n) [] = sym (take-nil (suc n - 1))
take_items (suc n) (x ∷ l) =
    let h : suc n - 1 ≡ n = omega arith in
    sym (rw h)

part_items : (a : List ℕ) (s e : ℕ) → items (part a s e) ≡ part a (s + 1) e
part_items a s e =
    let h : e - s - 1 ≡ e - (s + 1) = omega arith in
    take_items (e - s) (drop s a) ∙ rw (drop-drop 1 s a, h)

pub span_found : (a : List ℕ) (r n b s e : ℕ) (q : List ℕ) (d : Shape) (w : List ℕ) (up : Bool) → n ≡ get_or a VALUE 0 → r < n → (b ≡ base VALUE) × (b < heap)
    → s ≡ get_or a (b + r) 0 → e ≡ get_or a (b + r + 1) 0 → q ≡ part a s e → d ≡ shape_of q → d ≡ Record → w ≡ part a (s + 1) e → up ≡ rising 0 w → not up ≡ false → Spans a r (record { start = s + 1; end = e })
unfolding look_row look_part
span_found a r n b s e q d w up en h hb es ee eq ed z ew eu f = record { is = λ m. record { is = λ u. ap (λ (x : Row). r_rec Bad x (λ y. look_found (entry_of u y))) line ∙ ap (λ (l : List ℕ). look_found (entry_of u (entries_of l))) (ap items eq ∙ part_items a s e); rises = ap (rising 0) (sym ew) ∙ sym eu ∙ not-false up f } }
  where
    stands : q ≡ get_or (value_lines a) r []
    stands = row_given a n en r q h (row_some a VALUE r n b q en h hb.0 (row_at_is a (b + r) s e q es ee eq))

    line : value_in a r ≡ rrec (entries_of (items q))
    line = value_shape a r q d stands ed ∙ ap (λ (x : Shape). shape_row x (items q)) z

-- ---- noted

blank : (n v : ℕ) → get_or (replicate n NOWHERE) v NOWHERE ≡ NOWHERE
blank zero v = refl
blank (suc n) zero = refl
blank (suc n) (suc v) = blank n v

pub noted_none : (c : Bool) (a : List ℕ) (n : ℕ) → Noted c a (replicate n NOWHERE)
noted_none c a n = record { is = λ v h. absurd (h (ap (λ (s : Span). s.end) (blank n v))) }

-- ---- one more

-- where the span is known, the attributes of value w stand there
abbrev Right : Bool → List ℕ → ℕ → Span → Type 0
Right c a w s = (s.end ≡ 0 → ⊥) → Stands a s.start s.end (look_attr c a w)

module _ (c : Bool) (a : List ℕ) (v r : ℕ) (spans spans' : List Span) (g : Noted c a spans) (p : Placed a v r spans spans') where
  noted_more : ((u : ℕ) → look_attr c a v u ≡ look_row (value_in a r) u) → Noted c a spans'
  noted_more f = record { is = λ w. go w (eqb w v) refl (dec_lt v (length spans)) }
    where
      as_is : (w : ℕ) (s : Span) → get_or spans' w NOWHERE ≡ s → Right c a w s → Right c a w (get_or spans' w NOWHERE)
      as_is w s e h = subst (Right c a w) (sym e) h

      go : (w : ℕ) (b : Bool) → eqb w v ≡ b → Dec (v < length spans) → Right c a w (get_or spans' w NOWHERE)
      go w false z h = as_is w (get_or spans w NOWHERE) (ap (λ (l : List Span). get_or l w NOWHERE) p.put ∙ get_or-set_other spans v w p.span NOWHERE (eqb-false w v z)) (g.is w)
      go w true z (yes h) =
          let q : w ≡ v = eqb-true w v z in
          as_is w p.span (ap (λ (l : List Span). get_or l w NOWHERE) p.put ∙ ap (λ (j : ℕ). get_or (set spans v p.span) j NOWHERE) q ∙ get_or-set_same spans v p.span NOWHERE h)
          (λ n. let s = p.right.is n in record { is = λ u. ap (λ (j : ℕ). look_attr c a j u) q ∙ f u ∙ s.is u; rises = s.rises })
      go w true z (no h) =
          let q : w ≡ v = eqb-true w v z in
          let k : length spans' ≡ length spans = ap length p.put ∙ length-set spans v p.span in
          as_is w NOWHERE (get_or-eq_default spans' NOWHERE (omega (arith, k, q, h))) (λ n. absurd (n refl))

  -- of a value that is no entity
  module _ (u : ℕ) (l : Look) (q : List ℕ) (s : Shape) (eq : q ≡ get_or (value_lines a) v []) (es : s ≡ shape_of q) where
    pub looked_other : r ≡ v → OneOf (0 ∷ 1 ∷ 2 ∷ 4 ∷ 5 ∷ []) (tag_of the_type s) → l ≡ look_row (value_in a v) u → Looked c a v u spans' l
    looked_other z h e =
        record { is = attr_other a v q s eq es u c l h e; noted = noted_more (λ w. sym (attr_other a v q s eq es w c (look_row (value_in a v) w) h refl) ∙ ap (λ (x : ℕ). look_row (value_in a x) w) (sym z)) }

    pub looked_known : (k t : ℕ) (d : Part) → s ≡ Entity k t → part_of d ≡ part_in c a k t 1 → d ≡ Known r → l ≡ look_row (value_in a r) u → Looked c a v u spans' l
    looked_known k t d z ed y e =
        record { is = attr_entity a v q s eq es u c k t d l z ed (rw y e); noted = noted_more (λ w. sym (attr_entity a v q s eq es w c k t d (look_row (value_in a r) w) z ed (rw y))) }

-- ---- nothing more

module _ (c : Bool) (a : List ℕ) (v u : ℕ) (spans : List Span) (g : Noted c a spans) where
  module _ (q : List ℕ) (s : Shape) (eq : q ≡ get_or (value_lines a) v []) (es : s ≡ shape_of q) (k t : ℕ) (d : Part) (z : s ≡ Entity k t) (ed : part_of d ≡ part_in c a k t 1) where
    pub looked_unknown : d ≡ Unknown → Looked c a v u spans (Unknownˡ k)
    looked_unknown y = record { is = attr_entity a v q s eq es u c k t d (Unknownˡ k) z ed (rw y); noted = g }

    pub looked_empty : d ≡ Empty → Looked c a v u spans Missing
    looked_empty y = record { is = attr_entity a v q s eq es u c k t d Missing z ed (rw y); noted = g }

  module _ (s : Span) (es : s ≡ get_or spans v NOWHERE) (n : s.end ≡ 0 → ⊥) (q : List ℕ) (eq : q ≡ part a s.start s.end) where
    stands : Stands a s.start s.end (look_attr c a v)
    stands = rw es (g.is v (λ z. n (ap (λ (d : Span). d.end) es ∙ z)))

    pub noted_rising : rising 0 q ≡ true
    noted_rising = rw eq stands.rises

    module _ (y : Maybe ℕ) (ey : value_found y ≡ entry_of u (entries_of q)) where
      by_part : look_attr c a v u ≡ look_found (value_found y)
      unfolding look_part
      by_part = stands.is u ∙ rw (← eq, ey)

      pub noted_missing : y ≡ None → Looked c a v u spans Missing
      noted_missing z = record { is = sym (by_part ∙ rw z); noted = g }

      pub noted_found : (x : ℕ) → y ≡ Some x → Looked c a v u spans (Atˡ x)
      noted_found x z = record { is = sym (by_part ∙ rw z); noted = g }
