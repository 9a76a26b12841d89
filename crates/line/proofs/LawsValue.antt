-- A line's parts: constructor and items by its key. Assumes nothing.
use Rattle.std.proofs.Common.{Some, None}
use Rattle.scan.specs.Numbers.{known_form}
use Rattle.scan.proofs.Wordlists.{known_some, known_none}
use mathlib.Core.Path.{◌≡◌, refl, sym, ap, ◌∙◌}
use mathlib.Core.Bool.{Bool, cond}
use mathlib.Core.Option.{none, some}
use mathlib.Core.List.{List, [], ◌∷◌}
use Prim.Native.Nat.{ℕ, ◌+◌, ◌-◌, ◌*◌, ◌≤◌, ◌<◌}
use native.Mathlib.Omega.{arith}
use borrow.Author.Tests.{ne_eqb, lt-ltb, le-ltb}
use lib.ListN.{length, take, drop, set}
use lib.Seq.{take-set-le, drop-set-lt}
use Rattle.words.specs.Log.{part, room}
use Rattle.words.proofs.Stores.{length_part}
use Rattle.sheet.specs.Bytes.{index}
use Rattle.sheet.specs.Forms.{Mode, Headed, headed, forms, joined, or_empty, tag_of, row_for, row_headed, heading, name_first, name_second, no_tag, TYPE, VALUE, NODE}
use Rattle.scan.specs.declared.Cursor.{Cursor}
use Rattle.scan.specs.Places as Places
use Rattle.scan.specs.Places.{Counted, parts_from, items_at, item_end, items_by, index_by, first_index, ItemRead, NumberRead}
use Rattle.scan.proofs.Readings.{Walked, Numbered, items_first, items_part, numbered}
use Rattle.line.specs.Written.{counted_from, Headless, Tagged, Begun, row_room}
use Rattle.forms.proofs.Table.{node_items}
use Rattle.line.proofs.LawsItem.{one_word, index_wide}
use Rattle.line.proofs.LawsItems.{joined_empty}
use Rattle.line.proofs.LawsRow.{row_unformed, row_is, untyped, typed}
use Rattle.line.proofs.LawsTag.{NodeTag, node_tag}

pub plain_known : (t n : ℕ) → t ≡ n → t < no_tag → Some t ≡ known_form n
plain_known t n e h = rw (← e, lt-ltb t no_tag h) refl

pub plain_none : (t n : ℕ) → t ≡ n → no_tag ≤ t → None ≡ known_form n
plain_none t n e h = rw (← e, le-ltb t no_tag h) refl

nameless : tag_of NODE [] ≡ no_tag
unfolding tag_of forms
nameless = refl

-- ---- what a line begins with

-- one that has a tag and no items before it
tagged_head : (k b top a t : ℕ) (hd : Headed) (s w : List ℕ) (items : Cursor) → t < no_tag → Tagged k hd s a t items → length s + 5 - items.at ≤ b → Begun k hd b s a w w top t 0 items
tagged_head k b top a t hd s w items l g h =
    record {
      known = l;
      row = λ m. g.row m ∙ row_is m t (items_at s items) ∙ ap (or_empty t) (sym (joined_empty (counted_from m t 0 (items_at s items))));
      kept = record { below = refl; rest = refl };
      few = omega arith;
      node = λ z. absurd (omega arith);
      places = omega arith;
      after = g.after;
      near = g.near;
      close = h;
    }

module _ (s : List ℕ) (c : Cursor) (i : Places.Item) (q : ItemRead s c i) (e : ℕ) (next : Cursor) (g : i ≡ Some (e, next)) where
  walked : Walked s c e next
  walked = items_part s c e next (sym g ∙ q.is)

  tagged_name : (u : Bool) (t : ℕ) (f : List ℕ) → f ≡ part s c.at e → t ≡ tag_of (cond u VALUE TYPE) f → Tagged (cond u VALUE TYPE) (name_first (items_at s c)) s c.at t next
  tagged_name u t f hf ht =
      let x : t ≡ tag_of (cond u VALUE TYPE) (part s c.at e) = ht ∙ ap (tag_of (cond u VALUE TYPE)) hf in
      record {
        row = λ m. rw (walked.items, ← x) refl;
        after = omega (arith, walked.end, walked.next_at);
        near = omega (arith, walked.within, walked.next_at);
      }

  pub named_head_law : (u : Bool) (t : ℕ) (f : List ℕ) → f ≡ part s c.at e → Some t ≡ known_form (tag_of (cond u VALUE TYPE) f)
      → (t < no_tag) × (◌≡◌ {A = ℕ} 0 0) × Tagged (cond u VALUE TYPE) (name_first (items_at s c)) s c.at t next
  named_head_law u t f hf ht = let k = known_some t (tag_of (cond u VALUE TYPE) f) ht in (omega (arith, k), refl, tagged_name u t f hf k.0)

  pub named_none : (u : Bool) (f : List ℕ) → f ≡ part s c.at e → None ≡ known_form (tag_of (cond u VALUE TYPE) f) → Headless (cond u VALUE TYPE) (name_first (items_at s c))
  named_none u f hf ht =
      let t = tag_of (cond u VALUE TYPE) f in
      record { refused = λ m. (tagged_name u t f hf refl).row m ∙ row_unformed m t (items_at s next) (known_none t ht) }

-- ---- a node: its type is the index d, its constructor follows

module _ (s : List ℕ) (c : Cursor) (h : c.at ≤ length s) (d : Counted) (hd : NumberRead s c d) where
  no_node : (m : Mode) (f : List ℕ) (fs : List (List ℕ)) → items_at s c ≡ f ∷ fs → ((name : List ℕ) (gs : List (List ℕ)) → row_for m (tag_of NODE name) (f ∷ gs) ≡ [])
      → row_headed m NODE (name_second (items_at s c)) ≡ []
  no_node m f fs e none_there = ap (λ (l : List (List ℕ)). row_headed m NODE (name_second l)) e ∙ go fs
    where
      go : (fs : List (List ℕ)) → row_headed m NODE (name_second (f ∷ fs)) ≡ []
      go [] = none_there [] []
      go (name ∷ gs) = none_there name gs

  pub node_untyped : d ≡ None → Headless NODE (name_second (items_at s c))
  node_untyped g =
      let f = part s c.at (item_end s c.at) in
      let none_there : index f ≡ none = ap first_index (sym (items_first s c h)) ∙ hd.index_is ∙ ap index_by g in
      record { refused = λ m. no_node m f (parts_from 44 s (item_end s c.at + 1)) (items_first s c h) (λ name gs. untyped m name f gs none_there) }

  module _ (x : ℕ) (typed_at : Cursor) (g : d ≡ Some (x, typed_at)) where
    first : List ℕ
    first = part s c.at (item_end s c.at)

    told : Numbered s c x typed_at
    told = numbered s c x typed_at (sym g ∙ hd.is)

    type_in : c.at + 2 ≤ typed_at.at
    type_in = let q = told.item in omega (arith, index_wide (part s c.at (item_end s c.at)) x told.index_is, length_part s c.at (item_end s c.at) q.within, q.next_at)

    module _ (i : Places.Item) (q : ItemRead s typed_at i) where
      pub node_alone : i ≡ None → Headless NODE (name_second (items_at s c))
      unfolding first
      node_alone g₂ =
          let y : items_at s c ≡ first ∷ [] = told.item.items ∙ ap (λ (l : List (List ℕ)). first ∷ l) (q.items ∙ ap (items_by s typed_at) g₂) in
          record { refused = λ m. rw y (row_unformed m (tag_of NODE []) (first ∷ []) unnamed) }
        where
          unnamed : no_tag ≤ tag_of NODE []
          unnamed = omega (arith, nameless)

      module _ (e : ℕ) (last : Cursor) (g₂ : i ≡ Some (e, last)) (f : List ℕ) (hf : f ≡ part s typed_at.at e) where
        second : Walked s typed_at e last
        second = items_part s typed_at e last (sym g₂ ∙ q.is)

        row_of_node : (m : Mode) → row_headed m NODE (name_second (items_at s c)) ≡ row_for m (tag_of NODE f) (first ∷ items_at s last)
        unfolding first
        row_of_node m =
            let y : items_at s c ≡ first ∷ part s typed_at.at e ∷ items_at s last = told.item.items ∙ ap (λ (l : List (List ℕ)). first ∷ l) second.items in
            rw y (ap (λ (n : List ℕ). row_for m (tag_of NODE n) (first ∷ items_at s last)) (sym hf))

        pub node_none : None ≡ known_form (tag_of NODE f) → Headless NODE (name_second (items_at s c))
        node_none z = record { refused = λ m. row_of_node m ∙ row_unformed m (tag_of NODE f) (first ∷ items_at s last) (known_none (tag_of NODE f) z) }

        module _ (t : ℕ) (k : (t ≡ tag_of NODE f) × (tag_of NODE f < no_tag)) where
          tag : NodeTag f t
          tag = node_tag f t k.0

          known : t < no_tag
          known = omega (arith, k)

          -- a name of at least two letters
          wide : typed_at.at + 3 ≤ last.at
          wide = omega (arith, tag.wide known, ap length hf, length_part s typed_at.at e second.within, second.next_at)

          begun_law : (top : ℕ) (w : List ℕ) → room ≤ length w → 2 * top + length s + 16 ≤ 2 * room + c.at
              → Begun NODE (name_second (items_at s c)) (length s - c.at) s c.at w (set w (top + 1) x) top t 1 last
          unfolding first
          begun_law top w long fits =
              let y : x ∷ [] ≡ take 1 (drop (top + 1) (set w (top + 1) x)) = sym (one_word w (top + 1) x (omega arith)) in
              record {
                known = known;
                row = λ m. row_of_node m ∙ ap (λ (n : ℕ). row_for m n (first ∷ items_at s last)) (sym k.0) ∙ typed m t first (items_at s last) (some x) tag.low (tag.high known) told.index_is
                    ∙ ap (λ (v : List ℕ). or_empty t (joined (some v) (counted_from m t 1 (items_at s last)))) y;
                kept = record { below = take-set-le top w (top + 1) x (omega arith); rest = drop-set-lt room w (top + 1) x (omega arith) };
                few = omega arith;
                node = λ z. tag.low;
                places = node_items t tag.low (tag.high known);
                after = omega (arith, type_in, second.end, second.next_at);
                near = omega (arith, second.within, second.next_at);
                close = omega (arith, type_in, wide);
              }

        pub node_head_law : (t : ℕ) → Some t ≡ known_form (tag_of NODE f) → (top : ℕ) (w : List ℕ) → room ≤ length w → 2 * top + length s + 16 ≤ 2 * room + c.at
            → Begun NODE (name_second (items_at s c)) (length s - c.at) s c.at w (set w (top + 1) x) top t 1 last
        node_head_law t z = begun_law t (known_some t (tag_of NODE f) z)

-- ---- by the key

module _ (k top : ℕ) (s w : List ℕ) (c : Cursor) (l : c.at ≤ length s) where
  begun : (t k₂ : ℕ) (hd : Headed) (items : Cursor) → t < no_tag → Tagged k₂ hd s c.at t items → Begun k₂ hd (length s - c.at + 5) s c.at w w top t 0 items
  begun t k₂ hd items n g = tagged_head k₂ (length s - c.at + 5) top c.at t hd s w items n g (omega (arith, g.after))

  module _ (a : k ≡ NODE → ⊥) (d : k ≡ TYPE → ⊥) (f : k ≡ VALUE → ⊥) where
    pub begun_plain : (t : ℕ) → Some t ≡ known_form (tag_of k []) → Begun k (heading k (items_at s c)) (row_room k (length s - c.at)) s c.at w w top t 0 c
    begun_plain t z =
        let q = known_some t (tag_of k []) z in
        rw (ne_eqb k NODE a, ne_eqb k TYPE d, ne_eqb k VALUE f)
        (begun t k (headed [] (items_at s c)) c (omega (arith, q)) (record { row = λ m. rw q.0 refl; after = omega arith; near = omega arith }))

    pub begun_none : None ≡ known_form (tag_of k []) → Headless k (heading k (items_at s c)) × (w ≡ w)
    begun_none z =
        (rw (ne_eqb k NODE a, ne_eqb k TYPE d, ne_eqb k VALUE f) (record { refused = λ m. row_unformed m (tag_of k []) (items_at s c) (known_none (tag_of k []) z) }), refl)
