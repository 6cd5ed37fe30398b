-- What is read is spelled so, and what is spelled so is read: terms and steps.
use Rattle.std.proofs.Common.{◌≡◌, ◌≢◌, ℕ, ◌<◌, ◌^◌, List, [], ◌∷◌, ◌++◌, Bool, true, false, cond, eqb, refl, sym, ap, subst, ◌∙◌, arith, length, Option, Some, None, append_assoc}
use Rattle.std.specs.Prelude.{option_and_then, option_map, codes}
use Rattle.std.specs.Cmp.{first_so}
use Rattle.std.specs.Fmt.{decimal}
use Rattle.std.specs.List.{join_with_byte, list_all, slice_split}
use Rattle.std.specs.Ordering.{is_lt}
use Rattle.std.proofs.lemmas.Bool.{eqb-true}
use Rattle.std.proofs.lemmas.List.{append-nil}
use Rattle.std.proofs.lemmas.List.Splits.{join_with_byte-slice_split}
use Rattle.ul_base.specs.Names.{is_normal_byte}
use Rattle.ul_base.specs.Nodes.{node_cmp}
use Rattle.ul_base.specs.declared.node.Node.{Node}
use Rattle.ul_base.proofs.ForCallers.{name_is_plain}
use Rattle.ul_lines.specs.Pieces.{has, strip, until}
use Rattle.ul_lines.specs.Reader.{Each}
use Rattle.ul_lines.proofs.ForCallers.{some_is, bind_some, map_some, strip_is, strip_again, until_is, until_again}
use Rattle.ul_report.specs.Texts.{extra_text, node_text, placed_text, separator as separator_text, step_text, term_text, terms_text, versions_text}
use Rattle.ul_report.specs.declared.text_steps.TextTerm.{TextTerm}
use Rattle.ul_report.specs.declared.text_steps.TextTerm.TheVariants.{In, NotIn}
use Rattle.ul_report.specs.declared.text_steps.TextStep.{TextStep}
use Rattle.ul_report.specs.declared.text_steps.TextStep.TheVariants.{Need, Python, Base, Cut}
use Rattle.ul_report_read.specs.Proofs.{AreTerms, IsNamed, IsSet, IsStep, IsTerm, TermBefore}
use Rattle.ul_report_read.specs.StepReading.{all_terms_at, base_in, base_of, behind_word, cut_first, cut_in, cut_of, cut_of_parts, cut_on, cut_second, cut_with, each_term, front_at, front_of, if_last, in_of, kept_terms, last_at, need_in, need_of, negative_at, no_terms, not_in_of, not_of, number_front_at, number_of_parts, onto_terms, or_else, parted_at, python_in, python_of, separator, step_at, target_at, target_from, target_of, term_at, term_less, terms_at, with_number, with_rest}
use Rattle.ul_report_read.specs.Tokens.{node_at, number_at, placed_in, placed_of, rises}
use Rattle.ul_report_read.proofs.Cutting.{has_join, parted, pick_true, split_at}
use Rattle.ul_report_read.proofs.TokenLaws.{IsPlacedText, body_has, less_is, node_again, node_has, node_is, number_again, number_has, number_is, placed_again, placed_body, placed_is, rises_again, rises_is}
use Rattle.ul_version.specs.Fields.{Fields}

-- ---- a node and a set in braces

placed_closed : (node : Node) (vs : List Fields) (r : List ℕ) → placed_text node vs ++ r ≡ placed_body node vs ++ 125 ∷ r
unfolding placed_text
placed_closed node vs r = regroup (node_text node) (32 ∷ 123 ∷ []) (versions_text true vs) (125 ∷ []) r
  where
    regroup : (a b c d r : List ℕ) → (a ++ (b ++ (c ++ d))) ++ r ≡ (a ++ (b ++ c)) ++ (d ++ r)
    regroup a b c d r = simp append_assoc

-- what is read in front
record IsFrontText (t : List ℕ) (a : Node × List Fields × List ℕ) : Type 0 where
  text : placed_text a.0 a.1 ++ a.2 ≡ t
  node : IsNamed a.0
  set : IsSet a.1

front_is : (t : List ℕ) (a : Node × List Fields × List ℕ) → front_at t ≡ Some a → IsFrontText t a
unfolding front_at
front_is t a e =
    let u = bind_some (until 125 t) front_of a e in
    let c = until_is 125 t u.0.0 u.0.1 u.1 in
    let m = map_some (placed_in u.0.0) (with_rest u.0.1) a u.2 in
    let p = placed_is u.0.0 m.0 m.1 in
    subst (IsFrontText t) m.2 (record { text = placed_closed m.0.0 m.0.1 u.0.1 ∙ (ap (λ z. z ++ 125 ∷ u.0.1) p.text ∙ c.0); node = p.node; set = p.set })

front_again : (node : Node) (vs : List Fields) (r : List ℕ) → IsNamed node → IsSet vs → front_at (placed_text node vs ++ r) ≡ Some (node, vs, r)
unfolding front_at
front_again node vs r h k =
    ap (λ z. option_and_then front_of (until 125 z)) (placed_closed node vs r)
    ∙ (ap (option_and_then front_of) (until_again 125 (placed_body node vs) r (body_has 125 node vs refl refl refl refl refl refl refl h k))
    ∙ ap (option_map (with_rest r)) (placed_again node vs h k))

record IsLastText (t : List ℕ) (a : Node × List Fields) : Type 0 where
  text : placed_text a.0 a.1 ≡ t
  node : IsNamed a.0
  set : IsSet a.1

last_by : (t : List ℕ) (b : Node × List Fields × List ℕ) (a : Node × List Fields) → IsFrontText t b → if_last b ≡ Some a → IsLastText t a
last_by t (n, vs, []) a f e =
    subst (IsLastText t) (some_is (n, vs) a e) (record { text = sym (append-nil (placed_text n vs)) ∙ f.text; node = f.node; set = f.set })
last_by t (n, vs, b ∷ r) a f e = absurd cc

last_is : (t : List ℕ) (a : Node × List Fields) → last_at t ≡ Some a → IsLastText t a
last_is t a e =
    let b = bind_some (front_at t) if_last a e in
    last_by t b.0 a (front_is t b.0 b.1) b.2

last_again : (node : Node) (vs : List Fields) → IsNamed node → IsSet vs → last_at (placed_text node vs) ≡ Some (node, vs)
last_again node vs h k =
    ap last_at (sym (append-nil (placed_text node vs))) ∙ ap (option_and_then if_last) (front_again node vs [] h k)

placed_has : (c : ℕ) (node : Node) (vs : List Fields) → has c (placed_body node vs) ≡ false → eqb 125 c ≡ false → has c (placed_text node vs) ≡ false
placed_has c node vs h k =
    ap (has c) (sym (append-nil (placed_text node vs)) ∙ placed_closed node vs []) ∙ has_join c (placed_body node vs) (125 ∷ []) h (rw k refl)

-- ---- terms

-- a term without its closing brace
abbrev term_body : TextTerm → List ℕ
term_body (In node vs) = placed_body node vs
term_body (NotIn node vs) = codes "not " ++ placed_body node vs

closed_text : (node : Node) (vs : List Fields) → placed_text node vs ≡ placed_body node vs ++ 125 ∷ []
closed_text node vs = sym (append-nil (placed_text node vs)) ∙ placed_closed node vs []

term_closed : (u : TextTerm) → term_text u ≡ term_body u ++ 125 ∷ []
unfolding term_text
term_closed (In node vs) = closed_text node vs
term_closed (NotIn node vs) = ap (λ z. codes "not " ++ z) (closed_text node vs)

record IsTermText (t : List ℕ) (u : TextTerm) : Type 0 where
  text : term_body u ≡ t
  term : IsTerm u

not_in_by : (t : List ℕ) (a : Node × List Fields) (u : TextTerm) → IsPlacedText t a.0 a.1 → not_in_of a ≡ Some u → IsTermText (codes "not " ++ t) u
not_in_by t (n, []) u p e = absurd cc
not_in_by t (n, v ∷ vs) u p e =
    subst (IsTermText (codes "not " ++ t)) (some_is (NotIn n (v ∷ vs)) u e)
    (record { text = ap (λ z. codes "not " ++ z) p.text; term = (p.node, p.set, λ q. absurd cc) })

term_by : (t : List ℕ) (o : Option (Node × List Fields)) (u : TextTerm) → placed_in t ≡ o → or_else (option_map in_of o) (negative_at t) ≡ Some u → IsTermText t u
term_by t (Some a) u p e =
    let k = placed_is t a p in
    subst (IsTermText t) (some_is (in_of a) u e) (record { text = k.text; term = (k.node, k.set) })
term_by t None u p e =
    let s = bind_some (strip (codes "not ") t) not_of u e in
    let a = bind_some (placed_in s.0) not_in_of u s.2 in
    subst (λ z. IsTermText z u) (strip_is (codes "not ") t s.0 s.1) (not_in_by s.0 a.0 u (placed_is s.0 a.0 a.1) a.2)

term_is : (t : List ℕ) (u : TextTerm) → term_at t ≡ Some u → IsTermText t u
unfolding term_at
term_is t u e = term_by t (placed_in t) u refl e

no_brace : (b : ℕ) → is_normal_byte b ≡ true → eqb 123 b ≡ false
no_brace b h = by_test (eqb 123 b) refl
  where
    by_test : (q : Bool) → eqb 123 b ≡ q → eqb 123 b ≡ false
    by_test false q = q
    by_test true q = let e : is_normal_byte 123 ≡ true = ap is_normal_byte (eqb-true 123 b q) ∙ h in absurd cc

not_stripped : (n r : List ℕ) → 0 < length n → list_all is_normal_byte n ≡ true → strip (codes "{") (n ++ r) ≡ None
not_stripped [] r l h = absurd (omega arith)
not_stripped (b ∷ n) r l h = ap (λ z. cond z (strip [] (n ++ r)) None) (no_brace b (first_so _ _ h))

-- the word `not` isn't a node before a set
not_placed : (node : Node) (vs : List Fields) → IsNamed node → placed_in (codes "not " ++ placed_body node vs) ≡ None
unfolding placed_in node_text
not_placed node vs h =
    let p = name_is_plain node.name h.name in
    let e : placed_body node vs ≡ node.name ++ (extra_text node.extra ++ 32 ∷ 123 ∷ versions_text true vs) = append_assoc node.name (extra_text node.extra) (32 ∷ 123 ∷ versions_text true vs) in
    ap (option_and_then (placed_of (codes "not"))) (ap (strip (codes "{")) e ∙ not_stripped node.name (extra_text node.extra ++ 32 ∷ 123 ∷ versions_text true vs) p.0 p.1)

not_in_again : (node : Node) (vs : List Fields) → vs ≢ [] → not_in_of (node, vs) ≡ Some (NotIn node vs)
not_in_again node [] h = absurd (h refl)
not_in_again node (v ∷ vs) h = refl

term_again : (u : TextTerm) → IsTerm u → term_at (term_body u) ≡ Some u
unfolding term_at
term_again (In node vs) h = ap (λ o. or_else (option_map in_of o) (negative_at (placed_body node vs))) (placed_again node vs h.0 h.1)
term_again (NotIn node vs) h =
    ap (λ o. or_else (option_map in_of o) (negative_at (codes "not " ++ placed_body node vs))) (not_placed node vs h.0)
    ∙ (ap (option_and_then not_of) (strip_again (codes "not ") (placed_body node vs))
    ∙ (ap (option_and_then not_in_of) (placed_again node vs h.0 h.1) ∙ not_in_again node vs h.2))

term_has : (c : ℕ) (u : TextTerm) → ((node : Node) (vs : List Fields) → IsNamed node → IsSet vs → has c (placed_body node vs) ≡ false) → has c (codes "not ") ≡ false → IsTerm u → has c (term_body u) ≡ false
term_has c (In node vs) w k h = w node vs h.0 h.1
term_has c (NotIn node vs) w k h = has_join c (codes "not ") (placed_body node vs) k (w node vs h.0 h.1)

-- the terms of a cut
term_first : (first : Bool) (t : List ℕ) (x : TextTerm) (rest more : List ℕ) → parted_at first t ≡ Some x → rest ≡ more → (separator_text first ++ (term_text x ++ rest) ≡ t ++ 125 ∷ more) × IsTerm x
term_first first t x rest more e q =
    let s = bind_some (strip (separator first) t) term_at x e in
    let k = term_is s.0 x s.2 in (
      ap (λ z. separator_text first ++ (z ++ rest)) (term_closed x)
          ∙ (regroup (separator_text first) (term_body x) rest ∙ (ap (λ z. (separator_text first ++ z) ++ 125 ∷ rest) k.text ∙ (ap (λ z. z ++ 125 ∷ rest) (strip_is (separator first) t s.0 s.1) ∙ ap (λ z. t ++ 125 ∷ z) q))),
      k.term,
    )
  where
    regroup : (a b r : List ℕ) → a ++ ((b ++ 125 ∷ []) ++ r) ≡ (a ++ b) ++ 125 ∷ r
    regroup a b r = simp append_assoc

each_term_is : (first : Bool) (ps : List (List ℕ)) (ts : List TextTerm) → each_term first ps ≡ Some ts → (terms_text first ts ≡ join_with_byte 125 ps) × Each IsTerm ts
each_term_is first [] ts e = absurd cc
each_term_is first (t ∷ []) ts e = none_is t ts e
  where
    none_is : (t : List ℕ) (ts : List TextTerm) → no_terms t ≡ Some ts → (terms_text first ts ≡ t) × Each IsTerm ts
    none_is [] ts e = let q : [] ≡ ts = some_is [] ts e in subst (λ (z : List TextTerm). (terms_text first z ≡ []) × Each IsTerm z) q (refl, tt)
    none_is (b ∷ t) ts e = absurd cc
each_term_is first (t ∷ u ∷ ps) ts e =
    let a = bind_some (parted_at first t) (onto_terms (each_term false (u ∷ ps))) ts e in
    let m = map_some (each_term false (u ∷ ps)) (λ us. a.0 ∷ us) ts a.2 in
    let r = each_term_is false (u ∷ ps) m.0 m.1 in
    let k = term_first first t a.0 (terms_text false m.0) (join_with_byte 125 (u ∷ ps)) a.1 r.0 in
    subst (λ z. (terms_text first z ≡ t ++ 125 ∷ join_with_byte 125 (u ∷ ps)) × Each IsTerm z) m.2 (k.0, (k.1, r.1))

terms_is : (t : List ℕ) (ts : List TextTerm) → terms_at t ≡ Some ts → (terms_text true ts ≡ t) × AreTerms ts
unfolding terms_at
terms_is t ts e =
    let a = bind_some (all_terms_at t) kept_terms ts e in
    let k = pick_true (rises term_less a.0) (Some a.0) ts a.2 in
    let q : a.0 ≡ ts = some_is a.0 ts k.1 in
    let r = each_term_is true (slice_split (λ b. eqb b 125) t) a.0 a.1 in
    subst (λ z. (terms_text true z ≡ t) × AreTerms z) q
    (r.0 ∙ join_with_byte-slice_split 125 t, record { each = r.1; increase = rises_is term_less TermBefore before a.0 k.0 })
  where
    before : (x y : TextTerm) → term_less x y ≡ true → TermBefore x y
    before (In n vs) (In m ws) h = less_is (node_cmp n m) h
    before (In n vs) (NotIn m ws) h = less_is (node_cmp n m) h
    before (NotIn n vs) (In m ws) h = less_is (node_cmp n m) h
    before (NotIn n vs) (NotIn m ws) h = less_is (node_cmp n m) h

separator_has : (first : Bool) (b : List ℕ) → has 125 b ≡ false → has 125 (separator_text first ++ b) ≡ false
separator_has true b h = h
separator_has false b h = h

each_term_again : (first : Bool) (ts : List TextTerm) → Each IsTerm ts → each_term first (slice_split (λ b. eqb b 125) (terms_text first ts)) ≡ Some ts
each_term_again first [] h = refl
each_term_again first (u ∷ us) h =
    let rest = terms_text false us in
    let q = parted 125 rest in
    let cut : slice_split (λ b. eqb b 125) (terms_text first (u ∷ us)) ≡ (separator_text first ++ term_body u) ∷ slice_split (λ b. eqb b 125) rest =
    ap (λ z. slice_split (λ b. eqb b 125) (separator_text first ++ (z ++ rest))) (term_closed u)
    ∙ (ap (slice_split (λ b. eqb b 125)) (regroup (separator_text first) (term_body u) rest)
    ∙ split_at 125 (separator_text first ++ term_body u) rest (separator_has first (term_body u) (term_has 125 u (λ n vs k l. body_has 125 n vs refl refl refl refl refl refl refl k l) refl h.0))) in
    let again = each_term_again false us h.1 in
    ap (each_term first) (cut ∙ ap (λ z. (separator_text first ++ term_body u) ∷ z) q.is)
    ∙ (ap (option_and_then (onto_terms (each_term false (q.first ∷ q.more)))) (ap (option_and_then term_at) (strip_again (separator_text first) (term_body u)) ∙ term_again u h.0)
    ∙ ap (option_map (λ (vs : List TextTerm). u ∷ vs)) (ap (each_term false) (sym q.is) ∙ again))
  where
    regroup : (a b r : List ℕ) → a ++ ((b ++ 125 ∷ []) ++ r) ≡ (a ++ b) ++ 125 ∷ r
    regroup a b r = simp append_assoc

terms_again : (ts : List TextTerm) → AreTerms ts → terms_at (terms_text true ts) ≡ Some ts
unfolding terms_at
terms_again ts h =
    ap (option_and_then kept_terms) (each_term_again true ts h.each)
    ∙ ap (λ b. cond b (Some ts) None) (rises_again term_less TermBefore (λ x y r. lesser x y r) ts h.increase)
  where
    lesser : (x y : TextTerm) → TermBefore x y → term_less x y ≡ true
    lesser (In n vs) (In m ws) r = ap is_lt r
    lesser (In n vs) (NotIn m ws) r = ap is_lt r
    lesser (NotIn n vs) (In m ws) r = ap is_lt r
    lesser (NotIn n vs) (NotIn m ws) r = ap is_lt r

-- ---- steps

record IsStepText (t : List ℕ) (s : TextStep) : Type 0 where
  text : step_text s ≡ 32 ∷ t
  step : IsStep s

target_by : (n : Node) (vs : List Fields) (r : List ℕ) (s : TextStep) → IsNamed n → IsSet vs → target_at n vs r ≡ Some s → IsStepText (codes "need " ++ (placed_text n vs ++ r)) s
unfolding step_text
target_by n vs r s h k e =
    let t = bind_some (strip (codes " ") r) (target_of n vs) s e in
    let m = map_some (last_at t.0) (need_of n vs) s t.2 in
    let l = last_is t.0 m.0 m.1 in
    subst (IsStepText (codes "need " ++ (placed_text n vs ++ r))) m.2
    (record { text = ap (λ z. codes " need " ++ (placed_text n vs ++ z)) (ap (λ z. codes " " ++ z) l.text ∙ strip_is (codes " ") r t.0 t.1); step = (h, k, l.node, l.set) })

need_is : (t : List ℕ) (s : TextStep) → need_in t ≡ Some s → IsStepText (codes "need " ++ t) s
need_is t s e =
    let a = bind_some (front_at t) target_from s e in
    let f = front_is t a.0 a.1 in
    subst (λ z. IsStepText (codes "need " ++ z) s) f.text (target_by a.0.0 a.0.1 a.0.2 s f.node f.set a.2)

python_is : (t : List ℕ) (s : TextStep) → python_in t ≡ Some s → IsStepText (codes "python " ++ t) s
unfolding step_text
python_is t s e =
    let m = map_some (last_at t) python_of s e in
    let l = last_is t m.0 m.1 in
    subst (IsStepText (codes "python " ++ t)) m.2 (record { text = ap (λ z. codes " python " ++ z) l.text; step = (l.node, l.set) })

base_is : (t : List ℕ) (s : TextStep) → base_in t ≡ Some s → IsStepText (codes "base " ++ t) s
unfolding step_text
base_is t s e =
    let m = map_some (last_at t) base_of s e in
    let l = last_is t m.0 m.1 in
    subst (IsStepText (codes "base " ++ t)) m.2 (record { text = ap (λ z. codes " base " ++ z) l.text; step = (l.node, l.set) })

pub record IsNumberFront (t : List ℕ) (a : ℕ × List ℕ) : Type 0 where
  pub text : decimal a.0 ++ 32 ∷ a.1 ≡ t
  pub fits : a.0 < 2 ^ 64

pub number_front_is : (t : List ℕ) (a : ℕ × List ℕ) → number_front_at t ≡ Some a → IsNumberFront t a
number_front_is t a e =
    let u = bind_some (until 32 t) number_of_parts a e in
    let c = until_is 32 t u.0.0 u.0.1 u.1 in
    let m = map_some (number_at u.0.0) (with_number u.0.1) a u.2 in
    let k = number_is u.0.0 m.0 m.1 in
    subst (IsNumberFront t) m.2 (record { text = ap (λ z. z ++ 32 ∷ u.0.1) k.0 ∙ c.0; fits = k.1 })

pub number_front_again : (n : ℕ) (r : List ℕ) → n < 2 ^ 64 → number_front_at (decimal n ++ 32 ∷ r) ≡ Some (n, r)
number_front_again n r h =
    ap (option_and_then number_of_parts) (until_again 32 (decimal n) r (number_has 32 n refl h)) ∙ ap (option_map (with_number r)) (number_again n h)

-- the text of a cut
cut_spelled : (i j : ℕ) (n : Node) (ts : List TextTerm) → step_text (Cut i j n ts) ≡ codes " cut " ++ (decimal i ++ 32 ∷ (decimal j ++ 32 ∷ (codes "on " ++ (node_text n ++ 58 ∷ terms_text true ts))))
unfolding step_text
cut_spelled i j n ts = regroup (codes " cut ") (decimal i) (codes " ") (decimal j) (codes " on ") (node_text n) (codes ":") (terms_text true ts)
  where
    regroup : (a b c d e f g r : List ℕ) → (a ++ (b ++ (c ++ (d ++ (e ++ (f ++ g)))))) ++ r ≡ a ++ (b ++ (c ++ (d ++ (e ++ (f ++ (g ++ r))))))
    regroup a b c d e f g r = simp append_assoc

cut_of_is : (i j : ℕ) (t : List ℕ) (s : TextStep) → i < 2 ^ 64 → j < 2 ^ 64 → cut_of i j t ≡ Some s → IsStepText (codes "cut " ++ (decimal i ++ 32 ∷ (decimal j ++ 32 ∷ t))) s
unfolding step_text
cut_of_is i j t s hi hj e =
    let o = bind_some (strip (codes "on ") t) (cut_on i j) s e in
    let u = bind_some (until 58 o.0) (cut_of_parts i j) s o.2 in
    let c = until_is 58 o.0 u.0.0 u.0.1 u.1 in
    let n = bind_some (node_at u.0.0) (cut_with i j u.0.1) s u.2 in
    let m = map_some (terms_at u.0.1) (Cut i j n.0) s n.2 in
    let kn = node_is u.0.0 n.0 n.1 in
    let kt = terms_is u.0.1 m.0 m.1 in
    let tail : node_text n.0 ++ 58 ∷ terms_text true m.0 ≡ o.0 =
    ap (λ z. z ++ 58 ∷ terms_text true m.0) kn.0 ∙ (ap (λ z. u.0.0 ++ 58 ∷ z) kt.0 ∙ c.0) in
    subst (IsStepText (codes "cut " ++ (decimal i ++ 32 ∷ (decimal j ++ 32 ∷ t)))) m.2
    (record {
      text = cut_spelled i j n.0 m.0 ∙ ap (λ z. codes " cut " ++ (decimal i ++ 32 ∷ (decimal j ++ 32 ∷ z))) (ap (λ z. codes "on " ++ z) tail ∙ strip_is (codes "on ") t o.0 o.1);
      step = (hi, hj, kn.1, kt.1);
    })

cut_is : (t : List ℕ) (s : TextStep) → cut_in t ≡ Some s → IsStepText (codes "cut " ++ t) s
cut_is t s e =
    let a = bind_some (number_front_at t) cut_first s e in
    let b = bind_some (number_front_at a.0.1) (cut_second a.0.0) s a.2 in
    let ka = number_front_is t a.0 a.1 in
    let kb = number_front_is a.0.1 b.0 b.1 in
    subst (λ z. IsStepText (codes "cut " ++ z) s) (ap (λ z. decimal a.0.0 ++ 32 ∷ z) kb.text ∙ ka.text) (cut_of_is a.0.0 b.0.0 b.0.1 s ka.fits kb.fits b.2)

-- behind one of the words
word_is : (t word : List ℕ) (read : List ℕ → Option TextStep) (other : Option TextStep) (s : TextStep) (o : Option (List ℕ)) → strip word t ≡ o → ((r : List ℕ) → read r ≡ Some s → IsStepText (word ++ r) s) → (other ≡ Some s → IsStepText t s) → behind_word o read other ≡ Some s → IsStepText t s
word_is t word read other s None q w more e = more e
word_is t word read other s (Some r) q w more e = subst (λ z. IsStepText z s) (strip_is word t r q) (w r e)

step_is' : (t : List ℕ) (s : TextStep) → step_at t ≡ Some s → IsStepText t s
unfolding step_at
step_is' t s e =
    word_is t (codes "need ") need_in _ s (strip (codes "need ") t) refl (λ r f. need_is r s f)
    (word_is t (codes "python ") python_in _ s (strip (codes "python ") t) refl (λ r f. python_is r s f)
    (word_is t (codes "base ") base_in _ s (strip (codes "base ") t) refl (λ r f. base_is r s f)
    (word_is t (codes "cut ") cut_in None s (strip (codes "cut ") t) refl (λ r f. cut_is r s f) (λ f. absurd (no_step s f))))) e
  where
    no_step : (s : TextStep) → None ≡ Some s → ⊥
    no_step s f = cc

pub step_is : (t : List ℕ) (s : TextStep) → step_at t ≡ Some s → (step_text s ≡ 32 ∷ t) × IsStep s
step_is t s e = let k = step_is' t s e in (k.text, k.step)

-- what a step says without the space in front
abbrev pub step_body : TextStep → List ℕ
step_body (Need n vs m ws) = codes "need " ++ (placed_text n vs ++ (codes " " ++ placed_text m ws))
step_body (Python n vs) = codes "python " ++ placed_text n vs
step_body (Base n vs) = codes "base " ++ placed_text n vs
step_body (Cut i j n ts) = codes "cut " ++ (decimal i ++ 32 ∷ (decimal j ++ 32 ∷ (codes "on " ++ (node_text n ++ 58 ∷ terms_text true ts))))

pub step_spelled : (s : TextStep) → step_text s ≡ 32 ∷ step_body s
unfolding step_text
step_spelled (Need n vs m ws) = refl
step_spelled (Python n vs) = refl
step_spelled (Base n vs) = refl
step_spelled (Cut i j n ts) = cut_spelled i j n ts

cut_again : (i j : ℕ) (n : Node) (ts : List TextTerm) → i < 2 ^ 64 → j < 2 ^ 64 → IsNamed n → AreTerms ts → cut_in (decimal i ++ 32 ∷ (decimal j ++ 32 ∷ (codes "on " ++ (node_text n ++ 58 ∷ terms_text true ts)))) ≡ Some (Cut i j n ts)
cut_again i j n ts hi hj h k =
    ap (option_and_then cut_first) (number_front_again i _ hi)
    ∙ (ap (option_and_then (cut_second i)) (number_front_again j _ hj)
    ∙ (ap (option_and_then (cut_on i j)) (strip_again (codes "on ") (node_text n ++ 58 ∷ terms_text true ts))
    ∙ (ap (option_and_then (cut_of_parts i j)) (until_again 58 (node_text n) (terms_text true ts) (node_has 58 n refl refl refl h))
    ∙ (ap (option_and_then (cut_with i j (terms_text true ts))) (node_again n h) ∙ ap (option_map (Cut i j n)) (terms_again ts k)))))

need_again : (n : Node) (vs : List Fields) (m : Node) (ws : List Fields) → IsStep (Need n vs m ws) → need_in (placed_text n vs ++ (codes " " ++ placed_text m ws)) ≡ Some (Need n vs m ws)
need_again n vs m ws h =
    ap (option_and_then target_from) (front_again n vs (codes " " ++ placed_text m ws) h.0 h.1)
    ∙ (ap (option_and_then (target_of n vs)) (strip_again (codes " ") (placed_text m ws)) ∙ ap (option_map (need_of n vs)) (last_again m ws h.2 h.3))

pub step_again : (s : TextStep) → IsStep s → step_at (step_body s) ≡ Some s
unfolding step_at
step_again (Need n vs m ws) h = need_again n vs m ws h
step_again (Python n vs) h = ap (option_map python_of) (last_again n vs h.0 h.1)
step_again (Base n vs) h = ap (option_map base_of) (last_again n vs h.0 h.1)
step_again (Cut i j n ts) h = cut_again i j n ts h.0 h.1 h.2 h.3

-- ---- no line's end in a step

body_10 : (node : Node) (vs : List Fields) → IsNamed node → IsSet vs → has 10 (placed_body node vs) ≡ false
body_10 node vs h k = body_has 10 node vs refl refl refl refl refl refl refl h k

placed_10 : (node : Node) (vs : List Fields) → IsNamed node → IsSet vs → has 10 (placed_text node vs) ≡ false
placed_10 node vs h k = placed_has 10 node vs (body_10 node vs h k) refl

term_10 : (u : TextTerm) → IsTerm u → has 10 (term_text u) ≡ false
term_10 u h = ap (has 10) (term_closed u) ∙ has_join 10 (term_body u) (125 ∷ []) (term_has 10 u body_10 refl h) refl

terms_10 : (first : Bool) (ts : List TextTerm) → Each IsTerm ts → has 10 (terms_text first ts) ≡ false
terms_10 first [] h = refl
terms_10 first (u ∷ us) h = has_join 10 (separator_text first) (term_text u ++ terms_text false us) (no_end first) (has_join 10 (term_text u) (terms_text false us) (term_10 u h.0) (terms_10 false us h.1))
  where
    no_end : (b : Bool) → has 10 (separator_text b) ≡ false
    no_end true = refl
    no_end false = refl

pub step_10 : (s : TextStep) → IsStep s → has 10 (step_body s) ≡ false
step_10 (Need n vs m ws) h = has_join 10 (placed_text n vs) (codes " " ++ placed_text m ws) (placed_10 n vs h.0 h.1) (placed_10 m ws h.2 h.3)
step_10 (Python n vs) h = placed_10 n vs h.0 h.1
step_10 (Base n vs) h = placed_10 n vs h.0 h.1
step_10 (Cut i j n ts) h =
    has_join 10 (decimal i) _ (number_has 10 i refl h.0)
    (has_join 10 (decimal j) _ (number_has 10 j refl h.1) (has_join 10 (node_text n) (58 ∷ terms_text true ts) (node_has 10 n refl refl refl h.2) (terms_10 true ts h.3.each)))
