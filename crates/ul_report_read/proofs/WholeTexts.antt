-- The reader of derivation files is one.
use Rattle.std.proofs.Common.{◌≡◌, ℕ, ◌+◌, ◌≤◌, ◌^◌, List, [], ◌∷◌, ◌++◌, map, length, Bool, true, false, eqb, refl, sym, ap, subst, ◌∙◌, arith, append_assoc, Option, Some, None, Ok, Err}
use Rattle.std.specs.Prelude.{bytes_eq, codes, flat_map, nat_eq, option_and_then}
use Rattle.std.proofs.Common.{◌||◌}
use Rattle.std.proofs.lemmas.Bool.{eqb-true}
use Rattle.std.proofs.lemmas.List.{append-nil, length-append}
use Rattle.ul_lines.specs.Faults.{IsFault, IsWrong}
use Rattle.ul_lines.specs.Lines.{lines_of, onto_first}
use Rattle.ul_lines.specs.Pieces.{has}
use Rattle.ul_lines.specs.Reader.{Accepts, AreLines, Begins, Each, HasText, IsReader, read_text, text_by}
use Rattle.ul_lines.proofs.ForCallers.{bytes_eq_self, eqb_self, run_one, same_text, some_is, text_again, text_fault, text_taken, one_text as one_by}
use Rattle.ul_lock.specs.Region.{all_worlds}
use Rattle.ul_lock.proofs.ForCallers.{all_region}
use Rattle.ul_marker_text.specs.MarkerText.{marker_text}
use Rattle.ul_marker_text.proofs.ForCallers.{truth_readable}
use Rattle.ul_report.specs.Texts.{first_line, line_end, lines_from, lines_text, path_text, step_line, steps_text, world_text}
use Rattle.ul_report.specs.declared.text_steps.TextStep.{TextStep}
use Rattle.ul_report_read.specs.Automaton.{final, may, proof_of, proof_reader, run, step}
use Rattle.ul_report_read.specs.ProofLines.{Fit, proof_lines, spell, step_lines}
use Rattle.ul_report_read.specs.Proofs.{AreProofLines, IsProof, IsStep, IsTextOf, proof_text}
use Rattle.ul_report_read.specs.declared.line.Line.{Line}
use Rattle.ul_report_read.specs.declared.line.Line.TheVariants.{Title as title, Fork as fork, Region as region, World as world, Step as numbered}
use Rattle.ul_report_read.specs.declared.proof.Proof.{Proof}
use Rattle.ul_report_read.specs.declared.states.State.{State}
use Rattle.ul_report_read.specs.declared.states.State.TheVariants.{Start as start, Titled as titled, Forked as forked, Bounded as bounded, Stepping as stepping}
use Rattle.ul_report_read.proofs.LineLaws.{body_10, body_text, line_again, line_ends, line_takes, spelled}
use Rattle.ul_report_read.proofs.Worlds.{sample_10}
use Rattle.ul_nodes.specs.Plain.{Plain}
use Rattle.ul_tree.specs.Sample.{SampleHolds, sample_of}

-- ---- what a state says

-- the lines that lead to a state
abbrev spelt : State → List Line
spelt start = []
spelt titled = title ∷ []
spelt (forked p) = title ∷ fork p ∷ []
spelt (bounded p r) = title ∷ fork p ∷ region r ∷ []
spelt (stepping p r ss) = proof_lines (proof_of p r ss)

step_lines-snoc : (n k : ℕ) (ss : List TextStep) (s : TextStep) → k ≡ n + length ss → step_lines n (ss ++ s ∷ []) ≡ step_lines n ss ++ numbered k s ∷ []
step_lines-snoc n k [] s e = ap (λ m. numbered m s ∷ []) (omega (arith, e))
step_lines-snoc n k (t ∷ ss) s e = ap (λ ls. numbered n t ∷ ls) (step_lines-snoc (n + 1) k ss s (omega (arith, e)))

moved : (s x t : State) (l : Line) → spelt x ≡ spelt s ++ l ∷ [] → Some x ≡ Some t → spelt t ≡ spelt s ++ l ∷ []
moved s x t l k e = ap spelt (sym (some_is x t e)) ∙ k

world_moved : (p : List Bool) (r : Plain) (w : List ℕ) (t : State) (b : Bool) → bytes_eq w (world_text (sample_of r)) ≡ b → may b (stepping p r []) ≡ Some t → spelt t ≡ spelt (bounded p r) ++ world w ∷ []
world_moved p r w t true q e = moved (bounded p r) (stepping p r []) t (world w) (ap (λ z. title ∷ fork p ∷ region r ∷ world z ∷ []) (sym (same_text w (world_text (sample_of r)) q))) e
world_moved p r w t false q e = absurd cc

same_number : (n m : ℕ) → nat_eq n m ≡ true → n ≡ m
same_number n m h = eqb-true n m h

step_moved : (p : List Bool) (r : Plain) (ss : List TextStep) (n : ℕ) (s : TextStep) (t : State) (b : Bool) → nat_eq n (length ss + 1) ≡ b → may b (stepping p r (ss ++ s ∷ [])) ≡ Some t → spelt t ≡ spelt (stepping p r ss) ++ numbered n s ∷ []
step_moved p r ss n s t true q e =
    let k : n ≡ 1 + length ss = omega (arith, same_number n (length ss + 1) q) in
    moved (stepping p r ss) (stepping p r (ss ++ s ∷ [])) t (numbered n s)
    (ap (λ ls. title ∷ fork p ∷ region r ∷ world (world_text (sample_of r)) ∷ ls) (step_lines-snoc 1 n ss s k)) e
step_moved p r ss n s t false q e = absurd cc

no_state : (t : State) (A : Type 0) → None ≡ Some t → A
no_state t A e = absurd cc

-- a step puts its line behind the others
kept : (s : State) (l : Line) (t : State) → step s l ≡ Some t → spelt t ≡ spelt s ++ l ∷ []
kept start title t e = moved start titled t title refl e
kept start (fork q) t e = no_state t _ e
kept start (region q) t e = no_state t _ e
kept start (world q) t e = no_state t _ e
kept start (numbered n s) t e = no_state t _ e
kept titled title t e = no_state t _ e
kept titled (fork p) t e = moved titled (forked p) t (fork p) refl e
kept titled (region q) t e = no_state t _ e
kept titled (world q) t e = no_state t _ e
kept titled (numbered n s) t e = no_state t _ e
kept (forked p) title t e = no_state t _ e
kept (forked p) (fork q) t e = no_state t _ e
kept (forked p) (region r) t e = moved (forked p) (bounded p r) t (region r) refl e
kept (forked p) (world q) t e = no_state t _ e
kept (forked p) (numbered n s) t e = no_state t _ e
kept (bounded p r) title t e = no_state t _ e
kept (bounded p r) (fork q) t e = no_state t _ e
kept (bounded p r) (region q) t e = no_state t _ e
kept (bounded p r) (world w) t e = world_moved p r w t (bytes_eq w (world_text (sample_of r))) refl e
kept (bounded p r) (numbered n s) t e = no_state t _ e
kept (stepping p r ss) title t e = no_state t _ e
kept (stepping p r ss) (fork q) t e = no_state t _ e
kept (stepping p r ss) (region q) t e = no_state t _ e
kept (stepping p r ss) (world q) t e = no_state t _ e
kept (stepping p r ss) (numbered n s) t e = step_moved p r ss n s t (nat_eq n (length ss + 1)) refl e

leads_by : (s : State) (l : Line) (ls : List Line) (t : State) (o : Option State) → step s l ≡ o → ((u : State) → run u ls ≡ Some t → spelt t ≡ spelt u ++ ls) → option_and_then (λ u. run u ls) o ≡ Some t → spelt t ≡ spelt s ++ l ∷ ls
leads_by s l ls t None q again e = no_state t _ e
leads_by s l ls t (Some u) q again e = again u e ∙ (ap (λ z. z ++ ls) (kept s l u q) ∙ append_assoc (spelt s) (l ∷ []) ls)

-- lines that run lead to their state
leads : (ls : List Line) (s t : State) → run s ls ≡ Some t → spelt t ≡ spelt s ++ ls
leads [] s t e = ap spelt (sym (some_is s t e)) ∙ sym (append-nil (spelt s))
leads (l ∷ ls) s t e = leads_by s l ls t (step s l) refl (λ u f. leads ls u t f) e

ended : (s : State) (x : Proof) → final s ≡ Some x → proof_lines x ≡ spelt s
ended start x e = absurd cc
ended titled x e = absurd cc
ended (forked p) x e = absurd cc
ended (bounded p r) x e = absurd cc
ended (stepping p r ss) x e = ap proof_lines (sym (some_is (proof_of p r ss) x e))

-- each proof is shaped: its lines are in order
abbrev pub Any : Proof → Type 0
Any x = Unit {0}

run_shaped : (ls : List Line) (s : State) (x : Proof) → run start ls ≡ Some s → final s ≡ Some x → Any x × (proof_lines x ≡ ls)
run_shaped ls s x e f = (tt, ended s x f ∙ leads ls start s e)

-- ---- what runs begins a derivation file

begins_so : (ls front more : List Line) (x : Proof) → front ≡ ls → proof_lines x ≡ front ++ more → Each Fit (proof_lines x) → Begins Fit proof_lines Any ls
begins_so ls front more x e q k = record { more = more; whole = x; shaped = tt; same = q ∙ ap (λ z. z ++ more) e; fit = k }

-- all worlds are a region whose text is read
all_read : Fit (region all_worlds)
all_read = (all_region, truth_readable true)

-- the world of a region
abbrev world_of : Plain → Line
world_of r = world (world_text (sample_of r))

begins_by : SampleHolds → (ls : List Line) (s : State) → Each Fit ls → spelt s ≡ ls → Begins Fit proof_lines Any ls
begins_by law ls start k e = begins_so ls [] (proof_lines (proof_of [] all_worlds [])) (proof_of [] all_worlds []) e refl (tt, (tt, (all_read, (sample_10 law all_worlds all_read.0, tt))))
begins_by law ls titled k e =
    begins_so ls (title ∷ []) (fork [] ∷ region all_worlds ∷ world_of all_worlds ∷ []) (proof_of [] all_worlds []) e refl (tt, (tt, (all_read, (sample_10 law all_worlds all_read.0, tt))))
begins_by law ls (forked p) k e =
    begins_so ls (title ∷ fork p ∷ []) (region all_worlds ∷ world_of all_worlds ∷ []) (proof_of p all_worlds []) e refl (tt, (tt, (all_read, (sample_10 law all_worlds all_read.0, tt))))
begins_by law ls (bounded p r) k e =
    let f : Each Fit (title ∷ fork p ∷ region r ∷ []) = subst (Each Fit) (sym e) k in
    begins_so ls (title ∷ fork p ∷ region r ∷ []) (world_of r ∷ []) (proof_of p r []) e refl (tt, (tt, (f.1.1.0, (sample_10 law r f.1.1.0.0, tt))))
begins_by law ls (stepping p r ss) k e =
    begins_so ls (proof_lines (proof_of p r ss)) [] (proof_of p r ss) e (sym (append-nil (proof_lines (proof_of p r ss)))) (subst (Each Fit) (sym e) k)

run_begins : SampleHolds → (ls : List Line) (s : State) → Each Fit ls → run start ls ≡ Some s → Begins Fit proof_lines Any ls
run_begins law ls s k e = begins_by law ls s k (leads ls start s e)

-- ---- the reader goes over the lines of each proof

run_steps : (p : List Bool) (r : Plain) (before ss : List TextStep) (n : ℕ) → n ≡ length before + 1 → run (stepping p r before) (step_lines n ss) ≡ Some (stepping p r (before ++ ss))
run_steps p r before [] n e = ap (λ (z : List TextStep). Some (stepping p r z)) (sym (append-nil before))
run_steps p r before (s ∷ ss) n e =
    run_one proof_reader (stepping p r before) (numbered n s) (step_lines (n + 1) ss) (stepping p r (before ++ s ∷ [])) _
    (ap (λ b. may b (stepping p r (before ++ s ∷ []))) (ap (λ m. nat_eq m (length before + 1)) e ∙ eqb_self (length before + 1)))
    (run_steps p r (before ++ s ∷ []) ss (n + 1) (omega (arith, e, length-append before (s ∷ []))) ∙ ap (λ (z : List TextStep). Some (stepping p r z)) (append_assoc before (s ∷ []) ss))

accepts : (x : Proof) → Any x → Accepts proof_reader (proof_lines x) x
accepts x k = record {
  last = stepping x.path x.region x.steps;
  runs = run_one proof_reader (bounded x.path x.region) (world_of x.region) (step_lines 1 x.steps) (stepping x.path x.region []) _
      (ap (λ b. may b (stepping x.path x.region [])) (bytes_eq_self (world_text (sample_of x.region)))) (run_steps x.path x.region [] x.steps 1 refl);
  ended = refl;
}

reader_laws : SampleHolds → IsReader proof_reader Fit proof_lines Any
reader_laws law = record { takes = line_takes; again = line_again; ends = line_ends; shaped = run_shaped; begins = run_begins law; accepts = accepts }

-- ---- texts

steps_spelt : (n : ℕ) (ss : List TextStep) → flat_map spell (step_lines n ss) ≡ lines_from n ss
unfolding spell
steps_spelt n [] = refl
steps_spelt n (s ∷ ss) = ap (λ z. step_line n s ++ z) (steps_spelt (n + 1) ss)

-- the lines of a proof are its text
text_is : (x : Proof) → text_by spell proof_lines x ≡ proof_text x
unfolding spell lines_text
text_is x =
    ap (λ z. first_line ++ ((codes "fork: " ++ (path_text x.path ++ line_end)) ++ ((codes "region: " ++ (marker_text x.region ++ line_end)) ++ ((codes "world: " ++ (world_text (sample_of x.region) ++ line_end)) ++ z)))) (steps_spelt 1 x.steps)
    ∙ regroup first_line (codes "fork: ") (path_text x.path) line_end (codes "region: ") (marker_text x.region) (codes "world: ") (world_text (sample_of x.region)) (steps_text x.steps)
  where
    regroup : (a b c e d f g h r : List ℕ) → a ++ ((b ++ (c ++ e)) ++ ((d ++ (f ++ e)) ++ ((g ++ (h ++ e)) ++ r))) ≡ (a ++ (b ++ (c ++ (e ++ (d ++ (f ++ (e ++ (g ++ (h ++ e))))))))) ++ r
    regroup a b c e d f g h r = simp append_assoc

steps_fit : (n : ℕ) (ss : List TextStep) → Each IsStep ss → n + length ss ≤ 2 ^ 64 → Each Fit (step_lines n ss)
steps_fit n [] h l = tt
steps_fit n (s ∷ ss) h l = ((omega arith, h.0), steps_fit (n + 1) ss h.1 (omega arith))

fit_steps : (n : ℕ) (ss : List TextStep) → Each Fit (step_lines n ss) → Each IsStep ss
fit_steps n [] h = tt
fit_steps n (s ∷ ss) h = (h.0.1, fit_steps (n + 1) ss h.1)

fit_count : (n : ℕ) (ss : List TextStep) → n ≤ 2 ^ 64 → Each Fit (step_lines n ss) → n + length ss ≤ 2 ^ 64
fit_count n [] l h = omega arith
fit_count n (s ∷ ss) l h = let k = fit_count (n + 1) ss (omega (arith, h.0.0)) h.1 in omega (arith, k)

has_text : SampleHolds → (x : Proof) → IsProof x → HasText Fit proof_lines Any x
has_text law x h = record { shaped = tt; fit = (tt, (tt, ((h.region, h.readable), (sample_10 law x.region h.region, steps_fit 1 x.steps h.steps (omega (arith, h.count)))))) }

one_fits : 1 ≤ 2 ^ 64
one_fits = omega arith

is_proof : (x : Proof) → HasText Fit proof_lines Any x → IsProof x
is_proof x h = let f = h.fit.1.1.1.1 in record { region = h.fit.1.1.0.0; readable = h.fit.1.1.0.1; steps = fit_steps 1 x.steps f; count = let k = fit_count 1 x.steps one_fits f in omega (arith, k) }

body_lines : (t b : List ℕ) → has 10 t ≡ false → lines_of ((t ++ 10 ∷ []) ++ b) ≡ (t ++ 10 ∷ []) ∷ lines_of b
unfolding lines_of
body_lines [] b h = refl
body_lines (x ∷ t) b h = by_end (eqb x 10) refl (λ k. body_lines t b k) h
  where
    by_end : (q : Bool) → eqb x 10 ≡ q → (has 10 t ≡ false → lines_of ((t ++ 10 ∷ []) ++ b) ≡ (t ++ 10 ∷ []) ∷ lines_of b) → (q || has 10 t) ≡ false → lines_of (x ∷ ((t ++ 10 ∷ []) ++ b)) ≡ (x ∷ (t ++ 10 ∷ [])) ∷ lines_of b
    by_end true q more k = absurd cc
    by_end false q more k = rw q (ap (onto_first x) (more k))

lines_spelt : (ls : List Line) → Each Fit ls → lines_of (flat_map spell ls) ≡ map spell ls
unfolding lines_of
lines_spelt [] h = refl
lines_spelt (l ∷ ls) h =
    ap (λ z. lines_of (z ++ flat_map spell ls)) (spelled l)
    ∙ (body_lines (body_text l) (flat_map spell ls) (body_10 l h.0) ∙ (ap (λ z. z ∷ lines_of (flat_map spell ls)) (sym (spelled l)) ∙ ap (λ z. spell l ∷ z) (lines_spelt ls h.1)))

-- the lines of what is shaped are those of a derivation file
abbrev Shaped : List (List ℕ) → Type 0
Shaped ls = AreLines spell proof_lines (HasText Fit proof_lines Any) ls

to_proof_lines : (ls : List (List ℕ)) → Shaped ls → AreProofLines ls
to_proof_lines ls (x, h, e) = (x, is_proof x h, ap lines_of (sym (text_is x)) ∙ (lines_spelt (proof_lines x) h.fit ∙ e))

from_proof_lines : SampleHolds → (ls : List (List ℕ)) → AreProofLines ls → Shaped ls
from_proof_lines law ls (x, h, e) =
    let k = has_text law x h in
    (x, k, sym (lines_spelt (proof_lines x) k.fit) ∙ (ap lines_of (text_is x) ∙ e))

wrong_same : (P Q : List (List ℕ) → Type 0) → ((ls : List (List ℕ)) → Q ls → P ls) → (before rest : List (List ℕ)) → IsWrong P before rest → IsWrong Q before rest
wrong_same P Q back before [] h = λ q. h (back before q)
wrong_same P Q back before (l ∷ ls) h = λ f. h (f.0, back _ f.1)

fault_same : (P Q : List (List ℕ) → Type 0) → ((ls : List (List ℕ)) → P ls → Q ls) → ((ls : List (List ℕ)) → Q ls → P ls) → (ls : List (List ℕ)) (n : ℕ) → IsFault P ls n → IsFault Q ls n
fault_same P Q to back ls n f = record { before = f.before; rest = f.rest; whole = f.whole; count = f.count; good = (f.good.0, to _ f.good.1); wrong = wrong_same P Q back f.before f.rest f.wrong }

-- ---- what reading by lines gives

-- what is read is a proof, and this is its text
pub taken : SampleHolds → (bytes : List ℕ) (x : Proof) → read_text proof_reader bytes ≡ Ok x → IsTextOf bytes x
taken law bytes x e =
    let k = text_taken proof_reader Fit proof_lines Any (reader_laws law) bytes x e in
    record { is_proof = is_proof x k.0; same = sym (text_is x) ∙ k.1 }

-- each derivation file is read
pub again : SampleHolds → (bytes : List ℕ) (x : Proof) → IsTextOf bytes x → read_text proof_reader bytes ≡ Ok x
again law bytes x h =
    ap (read_text proof_reader) (sym (text_is x ∙ h.same)) ∙ text_again proof_reader Fit proof_lines Any (reader_laws law) x (has_text law x h.is_proof)

-- a fault is the first line that is wrong
pub fault : SampleHolds → (bytes : List ℕ) (n : ℕ) → read_text proof_reader bytes ≡ Err n → IsFault AreProofLines (lines_of bytes) n
fault law bytes n e =
    fault_same Shaped AreProofLines to_proof_lines (from_proof_lines law) (lines_of bytes) n (text_fault proof_reader Fit proof_lines Any (reader_laws law) bytes n e)

-- one text says one thing
pub one_text : SampleHolds → (text : List ℕ) (x y : Proof) → IsTextOf text x → IsTextOf text y → x ≡ y
one_text law text x y h k =
    one_by proof_reader Fit proof_lines Any (reader_laws law) x y (has_text law x h.is_proof) (has_text law y k.is_proof) (text_is x ∙ (h.same ∙ (sym k.same ∙ sym (text_is y))))
