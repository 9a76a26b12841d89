-- ERROR ANALYSIS, BOTH WAYS. Document 01: "add, sub, mul, neg, gettag, get and err can err; lit and var cannot; others err if a child can." A tree can err
-- exactly where one of its node lines has one of these seven words: an operation that is wrongly said to err, or not to, breaks this.
use mathlib.Core.Path.{◌≡◌, refl, sym, ◌∙◌, ap, ap₂}
use mathlib.Core.Bool.{Bool, true, false, ◌||◌, or-false, or_assoc, or_comm}
use mathlib.Core.List.{List, [], ◌∷◌, ◌++◌}
use Prim.Native.Nat.{ℕ, ◌+◌}
use Rattle.cedar.specs.Types.{Ty}
use Rattle.cedar.specs.Residual.{Node, Nodes, NodeArgs, lit, err, var, and, or, ite, un, bin, rel, get, has, haspath, set, rec, enil, econs, gnil, gcons, Un, unot, uneg, uempty, uis, ulike, un_errs, Bin, beq, blt, ble, badd, bsub, bmul, bcontains, ball, bany, bin_errs, Rel, rin, rgettag, rhastag, rel_errs, can_err, can_errs, can_err_args}
use Rattle.cedar.specs.Numbered.{mem_n}
use Rattle.sheet.specs.Forms.{forms, tag_of, tag}
use Rattle.sheet.specs.Answer.{size, root, roots, arg_roots, op, un_tag, un_items, bin_tag, rel_tag, type_number, tree_rows, all_rows, arg_rows}

abbrev pub err_words : List ℕ
err_words = op "add" ∷ op "sub" ∷ op "mul" ∷ op "neg" ∷ op "gettag" ∷ op "get" ∷ op "err" ∷ []

-- whether one of these node rows has such a word
abbrev pub any_errs : List (List ℕ) → Bool
any_errs [] = false
any_errs (r ∷ rs) = mem_n (tag r) err_words || any_errs rs

-- rows after rows, each as said of
join : {p q : Bool} (a b : List (List ℕ)) → p ≡ any_errs a → q ≡ any_errs b → (p || q) ≡ any_errs (a ++ b)
join {p} {q} [] b e f = ap₂ (λ x y. x || y) e f
join {p} {q} (r ∷ a) b e f = ap₂ (λ x y. x || y) e f ∙ or_assoc (mem_n (tag r) err_words) (any_errs a) (any_errs b) ∙ ap (λ z. mem_n (tag r) err_words || z) (join {p = any_errs a} {q = any_errs b} a b refl refl)

-- a parent after its children, of what it is by itself and what they are
parent : (i p : Bool) (a : List (List ℕ)) (r : List ℕ) → i ≡ mem_n (tag r) err_words → p ≡ any_errs a → (i || p) ≡ any_errs (a ++ (r ∷ []))
parent i p a r e f = or_comm i p ∙ join a (r ∷ []) f (e ∙ sym (or-false (mem_n (tag r) err_words)))

un_word : (u : Un) (l : List ℕ) → un_errs u ≡ mem_n (tag (un_tag u ∷ l)) err_words
unfolding tag_of forms
un_word unot l = refl
un_word uneg l = refl
un_word uempty l = refl
un_word (uis k) l = refl
un_word (ulike p) l = refl

bin_word : (o : Bin) (l : List ℕ) → bin_errs o ≡ mem_n (tag (bin_tag o ∷ l)) err_words
unfolding tag_of forms
bin_word beq l = refl
bin_word blt l = refl
bin_word ble l = refl
bin_word badd l = refl
bin_word bsub l = refl
bin_word bmul l = refl
bin_word bcontains l = refl
bin_word ball l = refl
bin_word bany l = refl

rel_word : (o : Rel) (l : List ℕ) → rel_errs o ≡ mem_n (tag (rel_tag o ∷ l)) err_words
unfolding tag_of forms
rel_word rin l = refl
rel_word rgettag l = refl
rel_word rhastag l = refl

module _ (ts : List Ty) where
  -- two children, and the rows of both
  pair : (a b : Node ℕ) (n : ℕ) → can_err a ≡ any_errs (tree_rows ts n a) → can_err b ≡ any_errs (tree_rows ts (n + size a) b) → (can_err a || can_err b) ≡ any_errs (tree_rows ts n a ++ tree_rows ts (n + size a) b)
  pair a b n e f = join (tree_rows ts n a) (tree_rows ts (n + size a) b) e f

  mutual
    unfolding tag_of forms

    -- THE THEOREM
    pub can_err_law : (e : Node ℕ) (n : ℕ) → can_err e ≡ any_errs (tree_rows ts n e)
    can_err_law (lit T v) n = refl
    can_err_law (err T) n = refl
    can_err_law (var T x) n = refl
    can_err_law (and T a b) n = parent false (can_err a || can_err b) (tree_rows ts n a ++ tree_rows ts (n + size a) b) (op "and" ∷ type_number ts T ∷ root n a ∷ root (n + size a) b ∷ []) refl (pair a b n (can_err_law a n) (can_err_law b (n + size a)))
    can_err_law (or T a b) n = parent false (can_err a || can_err b) (tree_rows ts n a ++ tree_rows ts (n + size a) b) (op "or" ∷ type_number ts T ∷ root n a ∷ root (n + size a) b ∷ []) refl (pair a b n (can_err_law a n) (can_err_law b (n + size a)))
    can_err_law (ite T c a b) n = parent false (can_err c || can_err a || can_err b) (tree_rows ts n c ++ tree_rows ts (n + size c) a ++ tree_rows ts (n + size c + size a) b) (op "if" ∷ type_number ts T ∷ root n c ∷ root (n + size c) a ∷ root (n + size c + size a) b ∷ []) refl
        (join (tree_rows ts n c ++ tree_rows ts (n + size c) a) (tree_rows ts (n + size c + size a) b) (pair c a n (can_err_law c n) (can_err_law a (n + size c))) (can_err_law b (n + size c + size a)))
    can_err_law (un T u a) n = parent (un_errs u) (can_err a) (tree_rows ts n a) (un_tag u ∷ type_number ts T ∷ root n a ∷ un_items u) (un_word u (type_number ts T ∷ root n a ∷ un_items u)) (can_err_law a n)
    can_err_law (bin T o a b) n = or_assoc (bin_errs o) (can_err a) (can_err b) ∙ parent (bin_errs o) (can_err a || can_err b) (tree_rows ts n a ++ tree_rows ts (n + size a) b) (bin_tag o ∷ type_number ts T ∷ root n a ∷ root (n + size a) b ∷ []) (bin_word o (type_number ts T ∷ root n a ∷ root (n + size a) b ∷ [])) (pair a b n (can_err_law a n) (can_err_law b (n + size a)))
    can_err_law (rel T o a b) n = or_assoc (rel_errs o) (can_err a) (can_err b) ∙ parent (rel_errs o) (can_err a || can_err b) (tree_rows ts n a ++ tree_rows ts (n + size a) b) (rel_tag o ∷ type_number ts T ∷ root n a ∷ root (n + size a) b ∷ []) (rel_word o (type_number ts T ∷ root n a ∷ root (n + size a) b ∷ [])) (pair a b n (can_err_law a n) (can_err_law b (n + size a)))
    can_err_law (get T a t) n = parent true (can_err a) (tree_rows ts n a) (op "get" ∷ type_number ts T ∷ root n a ∷ t ∷ []) refl (can_err_law a n)
    can_err_law (has T a t) n = parent false (can_err a) (tree_rows ts n a) (op "has" ∷ type_number ts T ∷ root n a ∷ t ∷ []) refl (can_err_law a n)
    can_err_law (haspath T a t us) n = parent false (can_err a) (tree_rows ts n a) (op "haspath" ∷ type_number ts T ∷ root n a ∷ t ∷ us) refl (can_err_law a n)
    can_err_law (set T es) n = parent false (can_errs es) (all_rows ts n es) (op "set" ∷ type_number ts T ∷ roots n es) refl (can_errs_law es n)
    can_err_law (rec T gs) n = parent false (can_err_args gs) (arg_rows ts n gs) (op "record" ∷ type_number ts T ∷ arg_roots n gs) refl (can_err_args_law gs n)

    can_errs_law : (es : Nodes ℕ) (n : ℕ) → can_errs es ≡ any_errs (all_rows ts n es)
    can_errs_law enil n = refl
    can_errs_law (econs e es) n = join (tree_rows ts n e) (all_rows ts (n + size e) es) (can_err_law e n) (can_errs_law es (n + size e))

    can_err_args_law : (gs : NodeArgs ℕ) (n : ℕ) → can_err_args gs ≡ any_errs (arg_rows ts n gs)
    can_err_args_law gnil n = refl
    can_err_args_law (gcons t e gs) n = join (tree_rows ts n e) (arg_rows ts (n + size e) gs) (can_err_law e n) (can_err_args_law gs (n + size e))
