-- Content equality is equality, and a made set is its members: what the numbering of values has to know.
use mathlib.Core.Path.{◌≡◌, refl, sym, ◌∙◌, ap, ap₂, subst}
use mathlib.Core.Bool.{Bool, true, false, cond, or-true}
use Prim.Native.Nat.{ℕ, compare, Ordering}
use lib.IntN.{pos, negsuc}
use lib.Dec.{compare_is_eq, eqb}
use Rattle.cedar.proofs.Tools.{no_true}
use Rattle.cedar.specs.Order.{Tree, leaf, node, and_then}
use Rattle.cedar.specs.Value.{Value, vbool, vlong, vtext, vent, vset, vrec, Values, vnil, vcons, Fields, fnil, fcons}
use Rattle.cedar.proofs.OrderLaws.{flip, cmp_eq, cmp_refl, cmp_flip, cmp_trans, lt≢eq}
use Rattle.cedar.specs.Canonical.{code, codes, field_codes, order, same, member, place, insert, ascending, make_set}

-- entities of different kinds are not the same
unequal : (o q : Ordering) → compare_is_eq o ≡ false → compare_is_eq (and_then o q) ≡ false
unequal Ordering.lt q e = refl
unequal Ordering.eq q e = no_true (sym e)
unequal Ordering.gt q e = refl

pub other_kind : (k l t u : ℕ) → eqb k l ≡ false → same (vent k t) (vent l u) ≡ false
unfolding same order
other_kind k l t u e = unequal (compare k l) (compare t u) e

-- a code is read back

num : Tree → ℕ
num (leaf n) = n
num (node a b) = 0

left : Tree → Tree
left (leaf n) = leaf n
left (node a b) = a

right : Tree → Tree
right (leaf n) = leaf n
right (node a b) = b

by_tag : ℕ → Tree → Values → Fields → Value
by_tag n b vs fs =
    cond (eqb n 0) (vbool (eqb (num b) 1)) (cond (eqb n 1) (vlong (cond (eqb (num (left b)) 0) (pos (num (right b))) (negsuc (num (right b)))))
    (cond (eqb n 2) (vtext (num b)) (cond (eqb n 3) (vent (num (left b)) (num (right b))) (cond (eqb n 4) (vset vs) (vrec fs)))))

mutual
  decode : Tree → Value
  decode (leaf n) = vbool false
  decode (node t b) = by_tag (num t) b (decodes b) (decode_fields b)

  decodes : Tree → Values
  decodes (leaf n) = vnil
  decodes (node a b) = vcons (decode a) (decodes b)

  decode_fields : Tree → Fields
  decode_fields (leaf n) = fnil
  decode_fields (node t (leaf n)) = fnil
  decode_fields (node t (node a b)) = fcons (num t) (decode a) (decode_fields b)

mutual
  unfolding decode by_tag num left right

  decode_code : (v : Value) → decode (code v) ≡ v
  decode_code (vbool false) = refl
  decode_code (vbool true) = refl
  decode_code (vlong (pos n)) = refl
  decode_code (vlong (negsuc n)) = refl
  decode_code (vtext t) = refl
  decode_code (vent k t) = refl
  decode_code (vset vs) = ap vset (decode_codes vs)
  decode_code (vrec fs) = ap vrec (decode_fields_law fs)

  decode_codes : (vs : Values) → decodes (codes vs) ≡ vs
  decode_codes vnil = refl
  decode_codes (vcons v vs) = ap₂ vcons (decode_code v) (decode_codes vs)

  decode_fields_law : (fs : Fields) → decode_fields (field_codes fs) ≡ fs
  decode_fields_law fnil = refl
  decode_fields_law (fcons t v fs) = ap₂ (fcons t) (decode_code v) (decode_fields_law fs)

pub code_inj : (v w : Value) → code v ≡ code w → v ≡ w
code_inj v w e = sym (decode_code v) ∙ ap decode e ∙ decode_code w

-- the order of values

pub order_eq : (v w : Value) → order v w ≡ Ordering.eq → v ≡ w
unfolding order
order_eq v w e = code_inj v w (cmp_eq (code v) (code w) e)

pub order_refl : (v : Value) → order v v ≡ Ordering.eq
unfolding order
order_refl v = cmp_refl (code v)

order_flip : (v w : Value) → order w v ≡ flip (order v w)
unfolding order
order_flip v w = cmp_flip (code v) (code w)

order_trans : (u v w : Value) → order u v ≡ Ordering.lt → order v w ≡ Ordering.lt → order u w ≡ Ordering.lt
unfolding order
order_trans u v w = cmp_trans (code u) (code v) (code w)

pub is_eq_eq : (o : Ordering) → compare_is_eq o ≡ true → o ≡ Ordering.eq
is_eq_eq Ordering.lt e = no_true e
is_eq_eq Ordering.eq e = refl
is_eq_eq Ordering.gt e = no_true e

-- `same` decides equality
pub same_true : (v w : Value) → same v w ≡ true → v ≡ w
unfolding same
same_true v w e = order_eq v w (is_eq_eq (order v w) e)

pub same_refl : (v : Value) → same v v ≡ true
unfolding same
same_refl v = ap compare_is_eq (order_refl v)

-- members

pub data Mem (v : Value) : Values → Type 0 where
  here : {vs : Values} → Mem v (vcons v vs)
  there : {w : Value} {vs : Values} → Mem v vs → Mem v (vcons w vs)

pub member_mem : (v : Value) (vs : Values) → member v vs ≡ true → Mem v vs
member_mem v vnil e = no_true e
member_mem v (vcons w ws) e = go (same v w) refl (member_mem v ws)
  where
    go : (b : Bool) → same v w ≡ b → (member v ws ≡ true → Mem v ws) → Mem v (vcons w ws)
    go true q f = subst (λ x. Mem v (vcons x ws)) (same_true v w q) here
    go false q f = there (f (rw q at e))

pub mem_member : {v : Value} {vs : Values} → Mem v vs → member v vs ≡ true
mem_member {v} here = rw (same_refl v)
mem_member {v} (there {w = w} h) = rw (mem_member h) (or-true (same v w))

-- ascending: each before all that follow
pub data Below (v : Value) : Values → Type 0 where
  last : Below v vnil
  next : {w : Value} {ws : Values} → order v w ≡ Ordering.lt → Below v ws → Below v (vcons w ws)

pub data Sorted : Values → Type 0 where
  nil : Sorted vnil
  cons : {v : Value} {vs : Values} → Below v vs → Sorted vs → Sorted (vcons v vs)

below_mem : {v w : Value} {vs : Values} → Below v vs → Mem w vs → order v w ≡ Ordering.lt
below_mem {v = v} {w = w} last x3 = elim x3 [ ]
below_mem (next e b) here = e
below_mem (next e b) (there m) = below_mem b m

below_trans : {u v : Value} {vs : Values} → order u v ≡ Ordering.lt → Below v vs → Below u vs
below_trans e last = last
below_trans {u} {v} e (next {w = w} f b) = next (order_trans u v w e f) (below_trans e b)

-- `insert` puts v among vs, `ascending` keeps the members, and both leave the list ascending

module _ (v w : Value) (ws r : Values) where
  place_self : (o : Ordering) → order v w ≡ o → Mem v r → Mem v (place o v w ws r)
  unfolding place
  place_self Ordering.lt e m = here
  place_self Ordering.eq e m = subst (λ x. Mem v (vcons x ws)) (order_eq v w e) here
  place_self Ordering.gt e m = there m

  place_in : {u : Value} (o : Ordering) → Mem u (vcons w ws) → (Mem u ws → Mem u r) → Mem u (place o v w ws r)
  unfolding place
  place_in Ordering.lt m f = there m
  place_in Ordering.eq m f = m
  place_in Ordering.gt here f = here
  place_in Ordering.gt (there m) f = there (f m)

  place_out : {u : Value} {X : Type 0} (o : Ordering) → (u ≡ v → X) → (Mem u (vcons w ws) → X) → (Mem u r → X) → Mem u (place o v w ws r) → X
  unfolding place
  place_out Ordering.lt f g h here = f refl
  place_out Ordering.lt f g h (there m) = g m
  place_out Ordering.eq f g h m = g m
  place_out Ordering.gt f g h here = g here
  place_out Ordering.gt f g h (there m) = h m

  place_below : {u : Value} (o : Ordering) → order u v ≡ Ordering.lt → Below u (vcons w ws) → Below u r → Below u (place o v w ws r)
  unfolding place
  place_below Ordering.lt e b c = next e b
  place_below Ordering.eq e b c = b
  place_below Ordering.gt e (next f b) c = next f c

  place_sorted : (o : Ordering) → order v w ≡ o → Below w ws → Sorted ws → (order w v ≡ Ordering.lt → Below w r) → Sorted r → Sorted (place o v w ws r)
  unfolding place
  place_sorted Ordering.lt e b s c t = cons (next e (below_trans e b)) (cons b s)
  place_sorted Ordering.eq e b s c t = cons b s
  place_sorted Ordering.gt e b s c t = cons (c (order_flip v w ∙ ap flip e)) t

insert_self : (v : Value) (vs : Values) → Mem v (insert v vs)
unfolding insert
insert_self v vnil = here
insert_self v (vcons w ws) = place_self v w ws (insert v ws) (order v w) refl (insert_self v ws)

insert_in : (v : Value) {u : Value} (vs : Values) → Mem u vs → Mem u (insert v vs)
unfolding insert
insert_in v vnil m = there m
insert_in v (vcons w ws) m = place_in v w ws (insert v ws) (order v w) m (λ k. insert_in v ws k)

insert_out : (v : Value) {u : Value} {X : Type 0} (vs : Values) → (u ≡ v → X) → (Mem u vs → X) → Mem u (insert v vs) → X
unfolding insert
insert_out v vnil f g here = f refl
insert_out v vnil f g (there m) = g m
insert_out v (vcons w ws) f g m = place_out v w ws (insert v ws) (order v w) f g (λ k. insert_out v ws f (λ l. g (there l)) k) m

insert_below : (v : Value) {u : Value} (vs : Values) → order u v ≡ Ordering.lt → Below u vs → Below u (insert v vs)
unfolding insert
insert_below v vnil e b = next e last
insert_below v (vcons w ws) e (next f b) = place_below v w ws (insert v ws) (order v w) e (next f b) (insert_below v ws e b)

insert_sorted : (v : Value) {vs : Values} → Sorted vs → Sorted (insert v vs)
unfolding insert
insert_sorted v nil = cons last nil
insert_sorted v (cons {v = w} {vs = ws} b s) = place_sorted v w ws (insert v ws) (order v w) refl b s (λ e. insert_below v ws e b) (insert_sorted v s)

pub ascending_sorted : (vs : Values) → Sorted (ascending vs)
unfolding ascending
ascending_sorted vnil = nil
ascending_sorted (vcons v vs) = insert_sorted v (ascending_sorted vs)

pub ascending_in : {u : Value} {vs : Values} → Mem u vs → Mem u (ascending vs)
unfolding ascending
ascending_in {u} (here {vs = vs}) = insert_self u (ascending vs)
ascending_in (there {w = w} {vs = vs} m) = insert_in w (ascending vs) (ascending_in m)

pub ascending_out : {u : Value} (vs : Values) → Mem u (ascending vs) → Mem u vs
unfolding ascending
ascending_out vnil m = m
ascending_out {u} (vcons v vs) m = insert_out v (ascending vs) (λ e. subst (λ x. Mem u (vcons x vs)) e here) (λ k. there (ascending_out vs k)) m

-- ascending lists with the same members are equal

abbrev Incl : Values → Values → Type 0
Incl xs ys = (v : Value) → Mem v xs → Mem v ys

never_before : (v : Value) {X : Type 0} → order v v ≡ Ordering.lt → X
never_before v e = lt≢eq (sym e ∙ order_refl v)

-- the least of one is the least of the other
heads : {x y : Value} {xs ys : Values} → Below x xs → Below y ys → Mem x (vcons y ys) → Mem y (vcons x xs) → x ≡ y
heads b c here n = refl
heads b c (there m) here = refl
heads {x} {y} b c (there m) (there n) = never_before x (order_trans x y x (below_mem b n) (below_mem c m))

tail : {x y : Value} {xs ys : Values} → x ≡ y → Below x xs → Incl (vcons x xs) (vcons y ys) → Incl xs ys
tail {x} {y} {xs} {ys} e b i v m = go (i v (there m)) refl
  where
    go : {z : Value} → Mem z (vcons y ys) → z ≡ v → Mem v ys
    go here q = never_before x (subst (λ u. order x u ≡ Ordering.lt) (sym q ∙ sym e) (below_mem b m))
    go (there k) q = subst (λ u. Mem u ys) q k

none : {v : Value} {X : Type 0} → Mem v vnil → X
none m = elim m [ ]

pub sorted_ext : {xs ys : Values} → Sorted xs → Sorted ys → ((v : Value) → Mem v xs → Mem v ys) → ((v : Value) → Mem v ys → Mem v xs) → xs ≡ ys
sorted_ext nil nil i j = refl
sorted_ext nil (cons {v = y} b s) i j = none (j y here)
sorted_ext (cons {v = x} b s) nil i j = none (i x here)
sorted_ext (cons {v = x} b s) (cons {v = y} c t) i j =
    let e = heads b c (i x here) (j y here) in
    ap₂ vcons e (sorted_ext s t (tail e b i) (tail (sym e) c j))

-- a made set is its members
pub make_set_ext : (xs ys : Values) → ((v : Value) → Mem v xs → Mem v ys) → ((v : Value) → Mem v ys → Mem v xs) → make_set xs ≡ make_set ys
unfolding make_set
make_set_ext xs ys i j = ap vset (sorted_ext (ascending_sorted xs) (ascending_sorted ys) (λ v m. ascending_in (i v (ascending_out xs m))) (λ v m. ascending_in (j v (ascending_out ys m))))

vset_inj : {xs ys : Values} → vset xs ≡ vset ys → xs ≡ ys
vset_inj e = cc

pub make_set_mem : (xs ys : Values) → make_set xs ≡ make_set ys → (v : Value) → Mem v xs → Mem v ys
unfolding make_set
make_set_mem xs ys e v m = ascending_out ys (subst (Mem v) (vset_inj e) (ascending_in m))
