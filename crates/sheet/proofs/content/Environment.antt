-- The request and the entities of an accepted sheet: known parts by number and by content, and that those of a complete sheet fit.
use mathlib.Core.Path.{◌≡◌, refl, sym, ◌∙◌, ap, subst}
use mathlib.Core.Bool.{Bool, true, false, cond, ◌&&◌, ◌||◌}
use mathlib.Core.Option.{Option, none, some, some-injective}
use mathlib.Core.List.{List, [], ◌∷◌, ◌++◌}
use Prim.Native.Nat.{ℕ, zero, suc, ◌<◌, ◌≤◌}
use native.Mathlib.Nat.{le_of_suc-le-suc}
use native.Mathlib.Omega.{arith}
use borrow.Author.Tests.{ltb-true, leb-true}
use lib.Dec.{leb, ltb, eqb}
use lib.ListN.{length, get_or, take, set, length-set}
use Rattle.cedar.proofs.Tools.{no_some}
use Rattle.cedar.specs.Value.{Value, vbool, vent}
use Rattle.cedar.specs.Types.{Var, principal, action, resource, context}
use Rattle.cedar.specs.Rows.{Entries, Row, rent, rset, rrec, same_row}
use Rattle.cedar.specs.Table.{At, dent}
use Rattle.cedar.proofs.TableLaws.{same_row_true}
use Rattle.cedar.specs.Numbered.{r_rec, r_set, mem_n}
use Rattle.cedar.proofs.ReadsOps.{EnvRead, LineRead, GiveRead, give_unknown, give_made, give_old, RecRead, rec_unknown, rec_known, SetRead, set_unknown, set_found}
use Rattle.sheet.specs.Forms.{Mode, partial, forms, form_of, slot_at, tag, at, mark, key_of, row_of, PRINCIPAL, ACTION, RESOURCE, CONTEXT, ENTITY, VALUE, no_key, no_tag}
use Rattle.sheet.specs.State.{State, lines_of, count, line_at, counts, lengths, value_row, value_at}
use Rattle.sheet.specs.Typing.{fits, attributes_of, tags_of, unknown_or, all_in, tags_fit, ancestor_fits, typed}
use Rattle.sheet.specs.Sheet.{reach, least, more, read}
use Rattle.sheet.specs.Content.{contents, value_over, known, entity_given, entity_known, given, request_known, parts_given, parts_in, parts_found, line_given, entity_line, look_up, n_env, p_env, content_in, fields_in, known_above, map_some, set_over}
use Rattle.sheet.proofs.reading.Lines.{and_both, Was, History, holds_read, Ended, AllFit}
use Rattle.sheet.proofs.content.Ancestors.{above_small, elems_over, known_above_law}
use Rattle.sheet.proofs.reading.Parsed.{all_below, between, tags_between}
use Rattle.sheet.proofs.content.ValueRows.{at_get_d}
use Rattle.sheet.proofs.reading.RowTests.{on_ent_law, on_rec}
use Rattle.sheet.proofs.content.Fitting.{val, val_eq, contents_length}
use Rattle.sheet.proofs.reading.NodeRows.{Read, row_read}
use Rattle.sheet.proofs.content.PoliciesRead.{item_there}
use Rattle.cedar.specs.Numbered as N
use Rattle.cedar.specs.Entities as E

-- ---- a line of each key that must have one

set_length : {A : Type 0} (l : List A) (k : ℕ) (a : A) (n : ℕ) → length l ≡ n → length (set l k a) ≡ n
set_length l k a n e = length-set l k a ∙ e

pub all_keys : (m : Mode) (sheet : List ℕ) → (read m sheet).number ≡ 0 → length (read m sheet).state.lines ≡ no_key
unfolding more
all_keys m sheet e = (holds_read m (λ s. length s.lines ≡ no_key) (λ s l h f. set_length s.lines (key_of (row_of m l)) (lines_of s (key_of (row_of m l)) ++ (row_of m l ∷ [])) no_key h) sheet refl e).0

reach_at : (xs ys : List ℕ) → reach xs ys ≡ true → (j : ℕ) → j < length xs → j < length ys → get_or ys j 0 ≤ get_or xs j 0
reach_at [] ys e j a b = absurd (omega arith)
reach_at (x ∷ xs) [] e j a b = absurd (omega arith)
reach_at (x ∷ xs) (y ∷ ys) e zero a b = and_both (leb y x) (reach xs ys) e (λ p q. leb-true y x p)
reach_at (x ∷ xs) (y ∷ ys) e (suc j) a b = and_both (leb y x) (reach xs ys) e (λ p q. reach_at xs ys q j (le_of_suc-le-suc a) (le_of_suc-le-suc b))

lengths_length : (ls : List (List (List ℕ))) → length (lengths ls) ≡ length ls
lengths_length [] = refl
lengths_length (l ∷ ls) = ap suc (lengths_length ls)

lengths_at : (ls : List (List (List ℕ))) (j : ℕ) → get_or (lengths ls) j 0 ≡ length (get_or ls j [])
lengths_at [] j = refl
lengths_at (l ∷ ls) zero = refl
lengths_at (l ∷ ls) (suc j) = lengths_at ls j

take_all : {A : Type 0} (n : ℕ) (l : List A) → length l ≡ n → take n l ≡ l
take_all zero [] e = refl
take_all zero (x ∷ l) e = absurd (omega (arith, e))
take_all (suc n) [] e = absurd (omega (arith, e))
take_all (suc n) (x ∷ l) e = ap (λ z. x ∷ z) (take_all n l (omega (arith, e)))

first_of : {X : Type 0} (l : List (List ℕ)) → 1 ≤ length l → ((rest : List (List ℕ)) → l ≡ get_or l 0 [] ∷ rest → X) → X
first_of [] h f = absurd (omega arith)
first_of (r ∷ rest) h f = f rest refl

-- what is known of the lines of a sheet that was read
pub record Facts (m : Mode) (s : State) : Type 0 where
  pub history : History m s
  pub ends : Ended s
  pub keys : length s.lines ≡ no_key
  pub fit : AllFit s

-- there is a line of a key that must have one
pub a_line : (m : Mode) (s : State) → Facts m s → (k : ℕ) → k < no_key → 1 ≤ get_or (least s) k 0 → 1 ≤ count s k
a_line m s f k lt one =
    let a : reach (counts s) (least s) ≡ true = subst (λ z. reach z (least s) ≡ true) (take_all no_key (counts s) (lengths_length s.lines ∙ f.keys)) f.ends.full in
    let b = reach_at (counts s) (least s) a k (let z = lengths_length s.lines ∙ f.keys in omega (arith, z, lt)) (omega (arith, lt)) in
    let c = lengths_at s.lines k in
    omega (arith, b, c, one)

pub the_line : (m : Mode) (s : State) → Facts m s → (k : ℕ) → k < no_key → 1 ≤ get_or (least s) k 0 → Was m s k [] (line_at s k 0)
the_line m s f k lt one = first_of (lines_of s k) (a_line m s f k lt one) (λ rest e. f.history k [] (line_at s k 0) rest e)

-- ---- a known part

module _ (m : Mode) (s : State) (h : History m s) where
  pub there_value : (n : ℕ) → n < count s VALUE → At (contents s) n (val m s h n)
  there_value n lt = let z = contents_length m s h in at_get_d (contents s) n (vbool false) (omega (arith, z, lt))

  known_there : (u : State) → lines_of u 5 ≡ lines_of s 5 → (n : ℕ) → eqb n mark ≡ false → (eqb n mark || ltb n (count u 5)) ≡ true → At (contents s) n (val m s h n)
  known_there u q n a b = there_value n (ltb-true n (count s 5) (subst (λ l. ltb n (length l) ≡ true) q (subst (λ z. (z || ltb n (count u 5)) ≡ true) a b)))

given_entity : (C : List Value) (r : List ℕ) → GiveRead C (entity_given r) (entity_known r)
given_entity C r = go (eqb (at r 1) mark)
  where
    go : (b : Bool) → GiveRead C (cond b none (some (N.made (rent (at r 0) (at r 1))))) (cond b none (some (vent (at r 0) (at r 1))))
    go true = give_unknown
    go false = give_made dent

-- ---- an entity's line

pub entity_found : {X : Type 0} (s : State) (e : Row) (rs : List (List ℕ)) (r : List ℕ) → entity_line s e rs ≡ some r → ((pre rest : List (List ℕ)) → rs ≡ pre ++ (r ∷ rest) → value_at s (at r 0) ≡ e → X) → X
entity_found s e [] r q f = no_some q
entity_found {X} s e (x ∷ rs) r q f = go (same_row (value_at s (at x 0)) e) refl (entity_found s e rs r) q
  where
    go : (b : Bool) → same_row (value_at s (at x 0)) e ≡ b → (entity_line s e rs ≡ some r → ((pre rest : List (List ℕ)) → rs ≡ pre ++ (r ∷ rest) → value_at s (at r 0) ≡ e → X) → X) → cond b (some x) (entity_line s e rs) ≡ some r → X
    go true p ih q = let z : x ≡ r = some-injective x r q in f [] rs (ap (λ i. i ∷ rs) z) (ap (λ i. value_at s (at i 0)) (sym z) ∙ same_row_true (value_at s (at x 0)) e p)
    go false p ih q = ih q (λ pre rest a b. f (x ∷ pre) rest (ap (λ i. x ∷ i) a) b)

entity_tags : all_below (between 6 16 16) no_tag ≡ true
unfolding form_of forms
entity_tags = refl

context_tags : all_below (between 10 20 20) no_tag ≡ true
unfolding form_of forms
context_tags = refl

pub entity_read : (m : Mode) (s : State) (pre : List (List ℕ)) (r : List ℕ) → Was m s ENTITY pre r → Read m r 16
unfolding key_of
entity_read m s pre r w = let (lo, hi) = tags_between 6 16 16 (tag r) (omega arith) entity_tags w.key in
    row_read m r w.line 16 w.row (omega (arith, lo, hi)) (omega arith) (omega arith) (λ z. absurd (omega (arith, z)))

pub context_read : (m : Mode) (s : State) (pre : List (List ℕ)) (r : List ℕ) → Was m s CONTEXT pre r → Read m r 20
unfolding key_of
context_read m s pre r w = let (lo, hi) = tags_between 10 20 20 (tag r) (omega arith) context_tags w.key in
    row_read m r w.line 20 w.row (omega (arith, lo, hi)) (omega arith) (omega arith) (λ z. absurd (omega (arith, z)))

-- what an entity's line of kind k says
pub record EntityOk (u : State) (r : List ℕ) (k t : ℕ) : Type 0 where
  pub entity_is : value_at u (at r 0) ≡ rent k t
  pub attrs_ok : unknown_or (at r 1) (r_rec false (value_at u (at r 1)) (λ e. fits u (at r 1) (attributes_of u k))) ≡ true
  pub tags_ok : unknown_or (at r 2) (r_rec false (value_at u (at r 2)) (tags_fit u (tags_of u k))) ≡ true
  pub ancestors_ok : unknown_or (at r 3) (r_set false (value_at u (at r 3)) (all_in (ancestor_fits u k))) ≡ true

pub entity_ok : {X : Type 0} (u : State) (r : List ℕ) → typed u r ENTITY ≡ true → ((k t : ℕ) → EntityOk u r k t → X) → X
unfolding typed
entity_ok u r e f = on_ent_law (value_at u (at r 0)) (λ k t. unknown_or (at r 1) (r_rec false (value_at u (at r 1)) (λ e. fits u (at r 1) (attributes_of u k))) && unknown_or (at r 2) (r_rec false (value_at u (at r 2)) (tags_fit u (tags_of u k))) && unknown_or (at r 3) (r_set false (value_at u (at r 3)) (all_in (ancestor_fits u k)))) e
    (λ k t q g. and_both (unknown_or (at r 1) (r_rec false (value_at u (at r 1)) (λ e. fits u (at r 1) (attributes_of u k))) && unknown_or (at r 2) (r_rec false (value_at u (at r 2)) (tags_fit u (tags_of u k)))) (unknown_or (at r 3) (r_set false (value_at u (at r 3)) (all_in (ancestor_fits u k)))) g (λ a c.
    and_both (unknown_or (at r 1) (r_rec false (value_at u (at r 1)) (λ e. fits u (at r 1) (attributes_of u k)))) (unknown_or (at r 2) (r_rec false (value_at u (at r 2)) (tags_fit u (tags_of u k)))) a (λ a b.
    f k t (record { entity_is = q; attrs_ok = a; tags_ok = b; ancestors_ok = c }))))

-- ---- known parts by number and by content

module _ (m : Mode) (s : State) (f : Facts m s) where
  h : History m s
  h = f.history

  pub value_is : (u : State) → lines_of u 5 ≡ lines_of s 5 → (n : ℕ) (q : Row) → value_at u n ≡ q → get_or (contents s) n (vbool false) ≡ value_over (contents s) q
  value_is u e n q p = val_eq m s h n ∙ ap (λ l. value_over (contents s) (value_row (get_or l n []))) (sym e) ∙ ap (value_over (contents s)) p

  rec_part : (u : State) → lines_of u 5 ≡ lines_of s 5 → (n : ℕ) (g : Entries → Bool) → (eqb n mark || ltb n (count u 5)) ≡ true → unknown_or n (r_rec false (value_at u n) g) ≡ true
      → RecRead (contents s) (known n (N.old n)) (known n (fields_in (content_in (contents s) n)))
  rec_part u e n g a b = go (eqb n mark) refl a b
    where
      go : (x : Bool) → eqb n mark ≡ x → (x || ltb n (count u 5)) ≡ true → (x || r_rec false (value_at u n) g) ≡ true → RecRead (contents s) (cond x none (some (N.old n))) (cond x none (some (fields_in (content_in (contents s) n))))
      go true p a b = rec_unknown
      go false p a b = on_rec (value_at u n) g b (λ es q r. let z = value_is u e n (rrec es) q in
          subst (λ y. RecRead (contents s) (some (N.old n)) (some (fields_in y))) (sym z) (rec_known (subst (At (contents s) n) z (known_there m s h u e n p (subst (λ y. (y || ltb n (count u 5)) ≡ true) (sym p) a)))))

  -- ancestors, known or not: what their numbers stand for
  ancestors_read : (pre : List (List ℕ)) (r : List ℕ) (rest : List (List ℕ)) → lines_of s ENTITY ≡ pre ++ (r ∷ rest) → (o : Option (List ℕ)) → known_above m s (at r 0) ≡ o
      → SetRead (contents s) (map_some (λ l. N.made (rset l)) o) (map_some (set_over (contents s)) o)
  ancestors_read pre r rest e none q = set_unknown
  ancestors_read pre r rest e (some l) q = set_found (elems_over (contents s) l (λ y i. let z = contents_length m s h in let a = above_small s f.fit pre r rest e y (subst (λ k. mem_n y k ≡ true) (sym (known_above_law m s (at r 0) l q)) i) in omega (arith, z, a))) refl

  pub parts_read : (pre : List (List ℕ)) (r : List ℕ) (rest : List (List ℕ)) → lines_of s ENTITY ≡ pre ++ (r ∷ rest) → LineRead (contents s) (parts_given m s r) (parts_in m s (contents s) r)
  unfolding slot_at form_of forms
  parts_read pre r rest q =
      let w = h ENTITY pre r rest q in
      let rd = entity_read m s pre r w in
      let e : lines_of w.was 5 ≡ lines_of s 5 = w.earlier 5 (omega arith) in
      entity_ok w.was r w.pass.types (λ k t ok. record {
        attrs = rec_part w.was e (at r 1) (λ e. fits w.was (at r 1) (attributes_of w.was k)) (item_there m s w.was ENTITY r 16 rd w.pass.refers 1 (ltb-true 1 4 refl)) ok.attrs_ok;
        tags = rec_part w.was e (at r 2) (tags_fit w.was (tags_of w.was k)) (item_there m s w.was ENTITY r 16 rd w.pass.refers 2 (ltb-true 2 4 refl)) ok.tags_ok;
        ancestors = ancestors_read pre r rest q (known_above m s (at r 0)) refl;
      })

  context_given : GiveRead (contents s) (given s context) (request_known s (contents s) context)
  unfolding slot_at form_of forms
  context_given =
      let w = the_line m s f CONTEXT (omega arith) (omega arith) in
      let r = line_at s CONTEXT 0 in
      let a : (eqb (at (line_at s CONTEXT 0) 1) mark || ltb (at (line_at s CONTEXT 0) 1) (count w.was 5)) ≡ true = item_there m s w.was CONTEXT (line_at s CONTEXT 0) 20 (context_read m s [] (line_at s CONTEXT 0) w) w.pass.refers 1 (ltb-true 1 2 refl) in
      go (at (line_at s CONTEXT 0) 1) w.was (w.earlier 5 (omega arith)) (eqb (at (line_at s CONTEXT 0) 1) mark) refl a
    where
      go : (n : ℕ) (u : State) → lines_of u 5 ≡ lines_of s 5 → (x : Bool) → eqb n mark ≡ x → (eqb n mark || ltb n (count u 5)) ≡ true → GiveRead (contents s) (cond x none (some (N.old n))) (cond x none (some (content_in (contents s) n)))
      go n u e true p a = give_unknown
      go n u e false p a = give_old (known_there m s h u e n p a)

  all_given : (x : Var) → GiveRead (contents s) (given s x) (request_known s (contents s) x)
  all_given principal = given_entity (contents s) (line_at s PRINCIPAL 0)
  all_given action = given_entity (contents s) (line_at s ACTION 0)
  all_given resource = given_entity (contents s) (line_at s RESOURCE 0)
  all_given context = context_given

-- THE KNOWN PARTS of a partial sheet
pub env_read : (s : State) → Facts partial s → EnvRead (contents s) (n_env partial s) (p_env s)
unfolding n_env p_env
env_read s f = record { request = all_given partial s f; line = λ k t. go k t (look_up s k t) refl }
  where
    go : (k t : ℕ) (o : Option (List ℕ)) → look_up s k t ≡ o → LineRead (contents s) (N.nline_or (line_given partial s o)) (E.pline_or (parts_found s (contents s) o))
    go k t none q = record { attrs = rec_unknown; tags = rec_unknown; ancestors = set_unknown }
    go k t (some r) q = entity_found s (rent k t) (lines_of s ENTITY) r q (λ pre rest a b. parts_read partial s f pre r rest a)
