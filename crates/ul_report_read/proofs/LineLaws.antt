-- What is read of a line is spelled so, and what is spelled so is read.
use Rattle.std.proofs.Common.{◌≡◌, ℕ, ◌<◌, List, [], ◌∷◌, ◌++◌, map, length, Bool, true, false, cond, eqb, refl, sym, ap, subst, ◌∙◌, arith, Option, Some, None, append_assoc}
use Rattle.std.specs.Prelude.{option_and_then, option_map, codes, bytes_eq}
use Rattle.std.specs.Char.{is_ascii_digit}
use Rattle.std.specs.Cmp.{first_so}
use Rattle.std.specs.Fmt.{decimal}
use Rattle.std.specs.List.{list_all}
use Rattle.std.proofs.lemmas.Bool.{eqb-true}
use Rattle.std.proofs.lemmas.Fmt.{decimal_nonempty}
use Rattle.ul_lines.specs.Lines.{ends_line}
use Rattle.ul_lines.specs.Pieces.{has, strip, until}
use Rattle.ul_lines.proofs.ForCallers.{some_is, bind_some, map_some, same_text, skip_line, strip_is, strip_again, until_is, until_again}
use Rattle.ul_lock.specs.Region.{IsRegion, all_worlds}
use Rattle.ul_lock.proofs.ForCallers.{all_region}
use Rattle.ul_marker_text.specs.MarkerOfText.{IsMarker, is_readable, marker_of_text}
use Rattle.ul_marker_text.specs.MarkerText.{marker_text}
use Rattle.ul_marker_text.proofs.ForCallers.{text_again, read_is_marker, truth_is_none, star_is_none, marker_10, marker_reduced, marker_no_extra, marker_readable, tree_is_marker, truth_readable}
use Rattle.ul_report.specs.Texts.{digit, path_text, step_line}
use Rattle.ul_report_read.specs.LineReading.{body_at, body_of_parts, digit_at, digits_at, fork_at, fork_of, line_of, numbered_at, onto_digits, path_at, plain_at, region_at, region_line_at, region_of, some_digits_at, step_of, world_at}
use Rattle.ul_report_read.specs.ProofLines.{Fit, spell}
use Rattle.ul_report_read.specs.StepReading.{number_front_at, or_else, step_at}
use Rattle.ul_report_read.specs.declared.line.Line.{Line}
use Rattle.ul_report_read.specs.declared.line.Line.TheVariants.{Title as title, Fork as fork, Region as region, World as world, Step as numbered}
use Rattle.ul_report_read.proofs.Cutting.{has_join}
use Rattle.ul_report_read.proofs.StepLaws.{number_front_again, number_front_is, step_10, step_again, step_body, step_is, step_spelled}
use Rattle.ul_report_read.proofs.TokenLaws.{decimal_digits, number_has}
use Rattle.ul_nodes.specs.Plain.{Plain, truth, node, Branches}

-- ---- paths

digit_is : (b : ℕ) (x : Bool) → digit_at b ≡ Some x → digit x ≡ b
digit_is b x e = by_zero (eqb b 48) refl e
  where
    by_one : (p : Bool) → eqb b 49 ≡ p → cond p (Some true) None ≡ Some x → digit x ≡ b
    by_one true q f = ap digit (sym (some_is true x f)) ∙ sym (eqb-true b 49 q)
    by_one false q f = absurd cc

    by_zero : (p : Bool) → eqb b 48 ≡ p → cond p (Some false) (cond (eqb b 49) (Some true) None) ≡ Some x → digit x ≡ b
    by_zero true q f = ap digit (sym (some_is false x f)) ∙ sym (eqb-true b 48 q)
    by_zero false q f = by_one (eqb b 49) refl f

digits_is : (t : List ℕ) (p : List Bool) → digits_at t ≡ Some p → map digit p ≡ t
digits_is [] p e = ap (map digit) (sym (some_is [] p e))
digits_is (b ∷ t) p e =
    let a = bind_some (digit_at b) (onto_digits (digits_at t)) p e in
    let m = map_some (digits_at t) (λ bs. a.0 ∷ bs) p a.2 in
    ap (map digit) (sym m.2) ∙ (ap (λ z. z ∷ map digit m.0) (digit_is b a.0 a.1) ∙ ap (λ z. b ∷ z) (digits_is t m.0 m.1))

some_digits_is : (t : List ℕ) (p : List Bool) → some_digits_at t ≡ Some p → path_text p ≡ t
some_digits_is [] p e = absurd cc
some_digits_is (b ∷ t) [] e = absurd (no_digit (digits_is (b ∷ t) [] e))
  where
    no_digit : [] ≡ b ∷ t → ⊥
    no_digit q = cc
some_digits_is (b ∷ t) (x ∷ xs) e = digits_is (b ∷ t) (x ∷ xs) e

path_by : (t : List ℕ) (p : List Bool) (q : Bool) → bytes_eq t (codes "-") ≡ q → cond q (Some []) (some_digits_at t) ≡ Some p → path_text p ≡ t
path_by t p true q e = ap path_text (sym (some_is [] p e)) ∙ sym (same_text t (codes "-") q)
path_by t p false q e = some_digits_is t p e

path_is : (t : List ℕ) (p : List Bool) → path_at t ≡ Some p → path_text p ≡ t
unfolding path_at
path_is t p e = path_by t p (bytes_eq t (codes "-")) refl e

digits_again : (p : List Bool) → digits_at (map digit p) ≡ Some p
digits_again [] = refl
digits_again (true ∷ p) = ap (option_map (λ bs. true ∷ bs)) (digits_again p)
digits_again (false ∷ p) = ap (option_map (λ bs. false ∷ bs)) (digits_again p)

path_again : (p : List Bool) → path_at (path_text p) ≡ Some p
unfolding path_at
path_again [] = refl
path_again (true ∷ p) = digits_again (true ∷ p)
path_again (false ∷ p) = digits_again (false ∷ p)

path_10 : (p : List Bool) → has 10 (path_text p) ≡ false
path_10 [] = refl
path_10 (b ∷ p) = digits_10 (b ∷ p)
  where
    digits_10 : (p : List Bool) → has 10 (map digit p) ≡ false
    digits_10 [] = refl
    digits_10 (true ∷ p) = digits_10 p
    digits_10 (false ∷ p) = digits_10 p

-- ---- regions

star_text : marker_text (truth true) ≡ codes "*"
unfolding marker_text
star_text = refl

-- a region whose text is read
abbrev IsRead : Plain → Type 0
IsRead r = IsRegion r × (is_readable r ≡ true)

of_marker : (r : Plain) → IsMarker r → IsRegion r
of_marker r m = record { reduced = marker_reduced r m; not_false = λ e. truth_is_none false (subst (λ z. IsMarker z) e m); no_extra = marker_no_extra r m }

marker_of_region : (l : List ℕ) (d : Plain) (bs : Branches) → IsRead (node l d bs) → IsMarker (node l d bs)
marker_of_region l d bs h = tree_is_marker (node l d bs) h.0.reduced h.0.no_extra (λ v e. no_truth v e) h.1
  where
    no_truth : (v : Bool) → node l d bs ≡ truth v → ⊥
    no_truth v e = cc

region_by : (t : List ℕ) (r : Plain) (q : Bool) → bytes_eq t (codes "*") ≡ q → cond q (Some all_worlds) (marker_of_text t) ≡ Some r → (marker_text r ≡ t) × IsRead r
region_by t r true q e =
    subst (λ z. (marker_text z ≡ t) × IsRead z) (some_is all_worlds r e) (star_text ∙ sym (same_text t (codes "*") q), (all_region, truth_readable true))
region_by t r false q e = let m = read_is_marker t r e in (text_again t r e, (of_marker r m, marker_readable r m))

region_is : (t : List ℕ) (r : Plain) → region_at t ≡ Some r → (marker_text r ≡ t) × IsRead r
unfolding region_at
region_is t r e = region_by t r (bytes_eq t (codes "*")) refl e

node_again : (r : Plain) → IsMarker r → (q : Bool) → bytes_eq (marker_text r) (codes "*") ≡ q → cond q (Some all_worlds) (marker_of_text (marker_text r)) ≡ Some r
node_again r m true q = absurd (no_tree r (sym star_is_none ∙ (ap marker_of_text (sym (same_text (marker_text r) (codes "*") q)) ∙ m)))
  where
    no_tree : (r : Plain) → None ≡ Some r → ⊥
    no_tree r e = cc
node_again r m false q = m

region_again : (r : Plain) → IsRead r → region_at (marker_text r) ≡ Some r
unfolding region_at
region_again (truth true) h = ap (λ z. cond (bytes_eq z (codes "*")) (Some all_worlds) (marker_of_text z)) star_text
region_again (truth false) h = absurd (h.0.not_false refl)
region_again (node l d bs) h = node_again (node l d bs) (marker_of_region l d bs h) (bytes_eq (marker_text (node l d bs)) (codes "*")) refl

region_10 : (r : Plain) → IsRead r → has 10 (marker_text r) ≡ false
region_10 (truth true) h = ap (has 10) star_text
region_10 (truth false) h = absurd (h.0.not_false refl)
region_10 (node l d bs) h = marker_10 (node l d bs) (marker_of_region l d bs h)

-- ---- lines

-- a line without its end
abbrev pub body_text : Line → List ℕ
body_text title = codes "no selection serves this fork"
body_text (fork p) = codes "fork: " ++ path_text p
body_text (region r) = codes "region: " ++ marker_text r
body_text (world t) = codes "world: " ++ t
body_text (numbered n s) = decimal n ++ 32 ∷ step_body s

pub spelled : (l : Line) → spell l ≡ body_text l ++ 10 ∷ []
unfolding spell step_line
spelled title = refl
spelled (fork p) = sym (append_assoc (codes "fork: ") (path_text p) (10 ∷ []))
spelled (region r) = sym (append_assoc (codes "region: ") (marker_text r) (10 ∷ []))
spelled (world t) = sym (append_assoc (codes "world: ") t (10 ∷ []))
spelled (numbered n s) = ap (λ z. decimal n ++ (z ++ 10 ∷ [])) (step_spelled s) ∙ sym (append_assoc (decimal n) (32 ∷ step_body s) (10 ∷ []))

pub body_10 : (l : Line) → Fit l → has 10 (body_text l) ≡ false
body_10 title h = refl
body_10 (fork p) h = path_10 p
body_10 (region r) h = region_10 r h
body_10 (world t) h = h
body_10 (numbered n s) h = has_join 10 (decimal n) (32 ∷ step_body s) (number_has 10 n refl h.0) (step_10 s h.1)

record IsBodyText (t : List ℕ) (l : Line) : Type 0 where
  text : body_text l ≡ t
  fit : Fit l

fork_is : (t : List ℕ) (l : Line) → fork_at t ≡ Some l → IsBodyText t l
fork_is t l e =
    let s = bind_some (strip (codes "fork: ") t) fork_of l e in
    let m = map_some (path_at s.0) fork l s.2 in
    subst (IsBodyText t) m.2 (record { text = ap (λ z. codes "fork: " ++ z) (path_is s.0 m.0 m.1) ∙ strip_is (codes "fork: ") t s.0 s.1; fit = tt })

region_line_is : (t : List ℕ) (l : Line) → region_line_at t ≡ Some l → IsBodyText t l
region_line_is t l e =
    let s = bind_some (strip (codes "region: ") t) region_of l e in
    let m = map_some (region_at s.0) region l s.2 in
    let k = region_is s.0 m.0 m.1 in
    subst (IsBodyText t) m.2 (record { text = ap (λ z. codes "region: " ++ z) k.0 ∙ strip_is (codes "region: ") t s.0 s.1; fit = k.1 })

world_is : (t : List ℕ) (l : Line) → has 10 t ≡ false → world_at t ≡ Some l → IsBodyText t l
world_is t l h e =
    let m = map_some (strip (codes "world: ") t) world l e in
    let k = strip_is (codes "world: ") t m.0 m.1 in
    subst (IsBodyText t) m.2 (record { text = k; fit = ap (has 10) k ∙ h })

else_is : {A : Type 0} (P : A → Type 0) (o p : Option A) (x : A) → (o ≡ Some x → P x) → (p ≡ Some x → P x) → or_else o p ≡ Some x → P x
else_is P None p x a b e = b e
else_is P (Some y) p x a b e = a e

plain_by : (t : List ℕ) (l : Line) (q : Bool) → has 10 t ≡ false → bytes_eq t (codes "no selection serves this fork") ≡ q → cond q (Some title) (or_else (fork_at t) (or_else (region_line_at t) (world_at t))) ≡ Some l → IsBodyText t l
plain_by t l true h q e = subst (IsBodyText t) (some_is title l e) (record { text = sym (same_text t (codes "no selection serves this fork") q); fit = tt })
plain_by t l false h q e =
    else_is (IsBodyText t) (fork_at t) (or_else (region_line_at t) (world_at t)) l (fork_is t l)
    (else_is (IsBodyText t) (region_line_at t) (world_at t) l (region_line_is t l) (world_is t l h)) e

plain_is : (t : List ℕ) (l : Line) → has 10 t ≡ false → plain_at t ≡ Some l → IsBodyText t l
plain_is t l h e = plain_by t l (bytes_eq t (codes "no selection serves this fork")) h refl e

numbered_is : (t : List ℕ) (l : Line) → numbered_at t ≡ Some l → IsBodyText t l
numbered_is t l e =
    let a = bind_some (number_front_at t) step_of l e in
    let m = map_some (step_at a.0.1) (numbered a.0.0) l a.2 in
    let f = number_front_is t a.0 a.1 in
    let k = step_is a.0.1 m.0 m.1 in
    subst (IsBodyText t) m.2 (record { text = ap (λ z. decimal a.0.0 ++ z) (sym (step_spelled m.0) ∙ k.0) ∙ f.text; fit = (f.fits, k.1) })

body_by : (b : ℕ) (t : List ℕ) (l : Line) (q : Bool) → has 10 (b ∷ t) ≡ false → cond q (numbered_at (b ∷ t)) (plain_at (b ∷ t)) ≡ Some l → IsBodyText (b ∷ t) l
body_by b t l true h e = numbered_is (b ∷ t) l e
body_by b t l false h e = plain_is (b ∷ t) l h e

body_is : (t : List ℕ) (l : Line) → has 10 t ≡ false → body_at t ≡ Some l → IsBodyText t l
body_is [] l h e = plain_is [] l h e
body_is (b ∷ t) l h e = body_by b t l (is_ascii_digit b) h e

parts_are : (text : List ℕ) (p : List ℕ × List ℕ) (l : Line) → (p.0 ++ 10 ∷ p.1 ≡ text) × (has 10 p.0 ≡ false) → body_of_parts p ≡ Some l → (spell l ≡ text) × Fit l
parts_are text (t, []) l c e = let k = body_is t l c.1 e in (spelled l ∙ (ap (λ z. z ++ 10 ∷ []) k.text ∙ c.0), k.fit)
parts_are text (t, b ∷ r) l c e = absurd cc

-- what is read of a line is spelled so
pub line_takes : (text : List ℕ) (l : Line) → line_of text ≡ Some l → (spell l ≡ text) × Fit l
unfolding line_of
line_takes text l e =
    let u = bind_some (until 10 text) body_of_parts l e in
    parts_are text u.0 l (until_is 10 text u.0.0 u.0.1 u.1) u.2

digit_first : (d r : List ℕ) → 0 < length d → list_all is_ascii_digit d ≡ true → body_at (d ++ r) ≡ numbered_at (d ++ r)
digit_first [] r l h = absurd (omega arith)
digit_first (b ∷ d) r l h = ap (λ q. cond q (numbered_at (b ∷ (d ++ r))) (plain_at (b ∷ (d ++ r)))) (first_so _ _ h)

body_again : (l : Line) → Fit l → body_at (body_text l) ≡ Some l
body_again title h = refl
body_again (fork p) h =
    ap (λ (o : Option Line). or_else o (or_else (region_line_at (codes "fork: " ++ path_text p)) (world_at (codes "fork: " ++ path_text p))))
    (ap (option_and_then fork_of) (strip_again (codes "fork: ") (path_text p)) ∙ ap (option_map fork) (path_again p))
body_again (region r) h =
    ap (λ (o : Option Line). or_else o (world_at (codes "region: " ++ marker_text r)))
    (ap (option_and_then region_of) (strip_again (codes "region: ") (marker_text r)) ∙ ap (option_map region) (region_again r h))
body_again (world t) h = ap (option_map world) (strip_again (codes "world: ") t)
body_again (numbered n s) h =
    digit_first (decimal n) (32 ∷ step_body s) (decimal_nonempty n h.0) (decimal_digits n h.0)
    ∙ (ap (option_and_then step_of) (number_front_again n (step_body s) h.0) ∙ ap (option_map (numbered n)) (step_again s h.1))

-- what is spelled so is read
pub line_again : (l : Line) → Fit l → line_of (spell l) ≡ Some l
unfolding line_of
line_again l h =
    ap (λ z. option_and_then body_of_parts (until 10 z)) (spelled l)
    ∙ (ap (option_and_then body_of_parts) (until_again 10 (body_text l) [] (body_10 l h)) ∙ body_again l h)

-- a line ends in LF
pub line_ends : (l : Line) → Fit l → ends_line (spell l) ≡ true
line_ends l h = ap ends_line (spelled l) ∙ skip_line (body_text l) (10 ∷ []) (body_10 l h)

-- a tree that is read of a text is a region's
pub read_is_region : (b : List ℕ) (r : Plain) → marker_of_text b ≡ Some r → IsRegion r
read_is_region b r e = of_marker r (read_is_marker b r e)
