-- What is printed is the output for the words.
use Rattle.std.proofs.Common.{◌≡◌, ◌≢◌, ◌++◌, ℕ, List, [], Bool, true, false, if◌then◌else◌, nat_eq, nat_le, length, codes, IfOk, IfSome, Option, Some, None, Result, Ok, Err, String, Global, string_bytes, refl, ap, sym, ◌∙◌, subst, arith}
use Rattle.ul_files.specs.Files.{ByReads}
use Rattle.ul_lock.specs.declared.parts.Lock.{Lock as LockData}
use Rattle.ul_tree.specs.Paths.{is_printable}
use Rattle.ul_nodes.specs.Plain.{Plain}
use Rattle.ul_lock_write.specs.Markers.{first_over, markers_of}
use Rattle.ul_lock_write.specs.Texts.{lock_text}
use Rattle.ul_report.specs.Texts.{refusal_text}
use Rattle.ul_reach.specs.Lines.{row_markers, rows_text}
use Rattle.ul_inputs.specs.Inputs.{text_bytes}
use Rattle.ul_inputs.specs.Refused.{Refused, limit}
use Rattle.ul_inputs.specs.Refusals.{Answers, Cause, refused_of}
use Rattle.ul_inputs.specs.declared.refusal.Refusal.{Refusal}
use Rattle.ul_inputs.specs.declared.refusal.Refusal.TheVariants.{Malformed, Limit, ReadFault, NoMemory}
use Rattle.ul_answers.specs.Answer as answer
use Rattle.ul_answers.specs.Printed.{Output as Printed, lock_output, output_of, printed, refusal_output, refused_output, too_many_paths, usage_text, counts_text, written}
use Rattle.ul_answers.specs.Refusals.{IsRefusalOutput, read_fault_text}
use Rattle.ul_answers.specs.Views.{output_view, view as answer_view}
use Rattle.ul_answers.specs.declared.answer.Answer.{Answer}
use Rattle.ul_answers.specs.declared.answer.Answer.TheVariants.{Usage as AnswerUsage}
use Rattle.ul_answers.specs.declared.outputs.Output.{Output}
use Rattle.ul_lock_commands.specs.Exports.{ExportsAreExact}
use Rattle.ul_commands.specs.Asked.{usage}
use Rattle.ul_commands.specs.Commands.{command}
use Rattle.ul_commands.specs.Views.{IsAnswering, IsByWords, view}
use Rattle.ul_commands.specs.declared.asked.Asked.{Asked}
use Rattle.ul_commands.specs.declared.asked.Asked.TheVariants.{Usage, Lock, Why, Relock, Gen, Env, Export, Marker, Check, Verify}
use Rattle.ul_program.specs.Answer.{IsAnswer, IsRead, NeedsNoFile, Prints}
use Rattle.ul_program.specs.Exported.{SaysWhatIsGiven}
use Rattle.ul_program.specs.Headline.{FilesSeen, IsOutput, IsOwn}
use Rattle.ul_program.specs.Words.{question}
use Rattle.ul_program.proofs.ExportedText.{says_what_is_given}

-- a fact on a result, from another
if_ok : {T E : Type 0} (r : Result T E) (P Q : T → Type 0) → ((x : T) → P x → Q x) → IfOk r P → IfOk r Q
if_ok (Ok x) P Q w h = w x h
if_ok (Err e) P Q w h = tt

-- what holds of what there is, of what is known to be there
if_some : {T : Type 0} (o : Option T) (x : T) → o ≡ Some x → (P : T → Type 0) → IfSome o P → P x
if_some None x is P h = absurd (cc)
if_some (Some y) x is P h = subst P (one y x is) h
  where
    one : {T : Type 0} (y x : T) → Some y ≡ Some x → y ≡ x
    one y x e = cc

-- a status of an output that isn't of usage or of a failed read
abbrev IsPlain : ℕ → Type 0
IsPlain status = IsOwn status × (status ≢ 2) × (status ≢ 5)

by_bool : (b : Bool) (x y : Printed) → IsPlain x.0 → IsPlain y.0 → IsPlain (if b then x else y).0
by_bool true x y h k = h
by_bool false x y h k = k

zero_plain : IsPlain 0
zero_plain = ((λ e. absurd (omega (arith, e)), λ e. absurd (omega (arith, e))), λ e. absurd (omega (arith, e)), λ e. absurd (omega (arith, e)))

one_plain : IsPlain 1
one_plain = ((λ e. absurd (omega (arith, e)), λ e. absurd (omega (arith, e))), λ e. absurd (omega (arith, e)), λ e. absurd (omega (arith, e)))

three_plain : IsPlain 3
three_plain = ((λ e. absurd (omega (arith, e)), λ e. absurd (omega (arith, e))), λ e. absurd (omega (arith, e)), λ e. absurd (omega (arith, e)))

four_plain : IsPlain 4
four_plain = ((λ e. absurd (omega (arith, e)), λ e. absurd (omega (arith, e))), λ e. absurd (omega (arith, e)), λ e. absurd (omega (arith, e)))

eight_plain : IsPlain 8
eight_plain = ((λ e. absurd (omega (arith, e)), λ e. absurd (omega (arith, e))), λ e. absurd (omega (arith, e)), λ e. absurd (omega (arith, e)))

nine_plain : IsPlain 9
nine_plain = ((λ e. absurd (omega (arith, e)), λ e. absurd (omega (arith, e))), λ e. absurd (omega (arith, e)), λ e. absurd (omega (arith, e)))

lock_plain : (over : Option ℕ) (text : List ℕ) → IsPlain (lock_output over text).0
lock_plain (Some paths) text = four_plain
lock_plain None text = by_bool (nat_le (length text) text_bytes) (0, text) (refused_output (limit (codes "text-bytes") text_bytes)) zero_plain four_plain

written_plain : (l : LockData) → IsPlain (written l).0
written_plain l = lock_plain (first_over (markers_of l)) (lock_text l)

refusal_plain : (region : Plain) (text : List ℕ) → IsPlain (refusal_output region text).0
refusal_plain region text = by_bool (is_printable region) (1, text) too_many_paths one_plain four_plain

-- the status of an answer other than usage
answer_plain : (a : answer.Answer) → IsAnswering a → IsPlain (output_of a).0
answer_plain answer.usage h = absurd h
answer_plain (answer.locked l n) h = written_plain l
answer_plain (answer.counted l n) h = by_bool (nat_eq (written l).0 0) (0, counts_text (length l.packages) n) (written l) zero_plain (written_plain l)
answer_plain answer.unwritten h = four_plain
answer_plain answer.untold h = four_plain
answer_plain (answer.no_selection path region core) h = refusal_plain region (refusal_text path region ++ core)
answer_plain (answer.derived path region steps) h = refusal_plain region (refusal_text path region ++ steps)
answer_plain answer.none_refused h = zero_plain
answer_plain (answer.environment text) h = zero_plain
answer_plain (answer.exported rows) h = lock_plain (first_over (row_markers rows)) (rows_text rows)
answer_plain (answer.canonical text) h = zero_plain
answer_plain answer.outside h = eight_plain
answer_plain (answer.no_extra name) h = eight_plain
answer_plain answer.accepted h = zero_plain
answer_plain (answer.rejected step) h = nine_plain
answer_plain answer.verified h = zero_plain
answer_plain answer.rejected_root h = nine_plain
answer_plain answer.rejected_supported h = nine_plain
answer_plain (answer.rejected_package name version) h = nine_plain

-- an output that no failed read gave
quiet : ExportsAreExact → (words : List (List ℕ)) (q : Asked) (before now : FilesSeen) (r : Result answer.Answer Refused) (s : ℕ) (t : List ℕ) → view q ≡ question words
    → IsOwn s → s ≢ 5 → ByReads now.reads (λ m. (command (view q) m).gives r) → Prints (printed r) s t
    → (NeedsNoFile (view q) → (command (view q) []).gives r) → (s ≡ 2 → view q ≡ usage) → now.faults ≡ before.faults
    → IsOutput words before now s t
unfolding IsAnswer
quiet law words q before now r s t same own unfailed told prints alone two still = record {
  range = own;
  answer = λ _ m e. record {
    answer = r;
    gives = subst (λ k. (command k m).gives r) same (told m e);
    prints = prints;
  };
  no_file = λ n. record {
    answer = r;
    gives = subst (λ k. (command k []).gives r) same (alone (subst NeedsNoFile (sym same) n));
    prints = prints;
  };
  exports = λ zero m e. subst (λ k. SaysWhatIsGiven k m t) same (says_what_is_given law (view q) m r t (told m e) (sym zero ∙ prints.0, prints.1));
  usage = λ is. sym same ∙ two is;
  fault = λ five. absurd (unfailed five);
  fault_text = λ five. absurd (unfailed five);
  fault_path = λ five. absurd (unfailed five);
  no_fault = λ _. still;
}

-- a command's answer is printed
command_output : ExportsAreExact → (words : List (List ℕ)) (q : Asked) (before now : FilesSeen) (a : Answer) (o : Output) → view q ≡ question words
    → ByReads now.reads (λ m. Answers answer_view (Ok a) (command (view q) m)) → now.faults ≡ before.faults → IsAnswering (answer_view a)
    → (NeedsNoFile (view q) → (command (view q) []).gives (Ok (answer_view a))) → output_view o ≡ output_of (answer_view a) → IsOutput words before now o.status o.text.items
command_output law words q before now a o same told still answering alone is =
    let plain = answer_plain (answer_view a) answering in
    let status_is : o.status ≡ (output_of (answer_view a)).0 = ap (λ x. x.0) is in
    let text_is : o.text.items ≡ (output_of (answer_view a)).1 = ap (λ x. x.1) is in
    quiet law words q before now (Ok (answer_view a)) o.status o.text.items same (subst IsOwn (sym status_is) plain.0)
    (λ five. plain.2 (sym status_is ∙ five)) told (status_is, text_is) alone
    (λ two. absurd (plain.1 (sym status_is ∙ two))) still

-- an answer is printed
answer_output : ExportsAreExact → (words : List (List ℕ)) (q : Asked) (before now : FilesSeen) (a : Answer) (o : Output) → view q ≡ question words
    → ByReads now.reads (λ m. Answers answer_view (Ok a) (command (view q) m)) → now.faults ≡ before.faults → IsByWords q (Ok a)
    → output_view o ≡ output_of (answer_view a) → IsOutput words before now o.status o.text.items
answer_output law words Usage before now a o same told still by is =
    let kind : a ≡ AnswerUsage = ok_same a AnswerUsage by in
    let all : output_view o ≡ output_of answer.usage = is ∙ ap (λ x. output_of (answer_view x)) kind in
    let status_is : o.status ≡ 2 = ap (λ x. x.0) all in
    let text_is : o.text.items ≡ usage_text = ap (λ x. x.1) all in
    quiet law words Usage before now (Ok answer.usage) o.status o.text.items same
    ((λ e. absurd (omega (arith, e, status_is))), (λ e. absurd (omega (arith, e, status_is)))) (λ e. absurd (omega (arith, e, status_is)))
    (λ m e. refl) (status_is, text_is) (λ _. refl) (λ _. refl) still
  where
    ok_same : (x y : Answer) → (let r : Result Answer Refusal = Ok x in r) ≡ Ok y → x ≡ y
    ok_same x y e = cc
answer_output law words (Lock project folder workers old) before now a o same told still by is =
    command_output law words (Lock project folder workers old) before now a o same told still by (λ n. absurd n) is
answer_output law words (Why project folder workers old) before now a o same told still by is =
    command_output law words (Why project folder workers old) before now a o same told still by (λ n. absurd n) is
answer_output law words (Relock project folder workers old) before now a o same told still by is =
    command_output law words (Relock project folder workers old) before now a o same told still by (λ n. absurd n) is
answer_output law words (Gen seed size workers) before now a o same told still by is =
    command_output law words (Gen seed size workers) before now a o same told still by.0 (λ _. by.1.1) is
answer_output law words (Env lock machine extras) before now a o same told still by is =
    command_output law words (Env lock machine extras) before now a o same told still by (λ n. absurd n) is
answer_output law words (Export lock extras) before now a o same told still by is =
    command_output law words (Export lock extras) before now a o same told still by (λ n. absurd n) is
answer_output law words (Marker file) before now a o same told still by is =
    command_output law words (Marker file) before now a o same told still by (λ n. absurd n) is
answer_output law words (Verify project folder lock) before now a o same told still by is =
    command_output law words (Verify project folder lock) before now a o same told still by (λ n. absurd n) is
answer_output law words (Check project folder derivation) before now a o same told still by is =
    command_output law words (Check project folder derivation) before now a o same told still by (λ n. absurd n) is

-- a refusal that comes without any file
alone_refused : (q : Asked) (e : Refusal) (f : Refused) → refused_of e ≡ Some f → IsByWords q (Err e)
    → NeedsNoFile (view q) → (command (view q) []).gives (Err f)
alone_refused Usage e f is by n = absurd (cc)
alone_refused (Lock project folder workers old) e f is by n = absurd n
alone_refused (Why project folder workers old) e f is by n = absurd n
alone_refused (Relock project folder workers old) e f is by n = absurd n
alone_refused (Gen seed size workers) e f is by n = if_some (refused_of e) f is _ by.1.1.0
alone_refused (Env lock machine extras) e f is by n = absurd n
alone_refused (Export lock extras) e f is by n = absurd n
alone_refused (Marker file) e f is by n = absurd n
alone_refused (Check project folder derivation) e f is by n = absurd n
alone_refused (Verify project folder lock) e f is by n = absurd n

-- a refused input is printed
refused_printed : ExportsAreExact → (words : List (List ℕ)) (q : Asked) (before now : FilesSeen) (e : Refusal) (f : Refused) (o : Output) → view q ≡ question words
    → refused_of e ≡ Some f → ByReads now.reads (λ m. (command (view q) m).gives (Err f)) → now.faults ≡ before.faults → IsByWords q (Err e)
    → IsPlain (refused_output f).0 → output_view o ≡ refused_output f → IsOutput words before now o.status o.text.items
refused_printed law words q before now e f o same kind told still by plain is =
    let status_is : o.status ≡ (refused_output f).0 = ap (λ x. x.0) is in
    let text_is : o.text.items ≡ (refused_output f).1 = ap (λ x. x.1) is in
    quiet law words q before now (Err f) o.status o.text.items same (subst IsOwn (sym status_is) plain.0)
    (λ five. plain.2 (sym status_is ∙ five)) told (status_is, text_is) (alone_refused q e f kind by)
    (λ two. absurd (plain.1 (sym status_is ∙ two))) still

-- no read fails where no file is needed
alone_failed : (q : Asked) (path : String Global) → IsByWords q (Err (ReadFault path)) → NeedsNoFile (view q) → ⊥
alone_failed Usage path by n = absurd (cc)
alone_failed (Lock project folder workers old) path by n = n
alone_failed (Why project folder workers old) path by n = n
alone_failed (Relock project folder workers old) path by n = n
alone_failed (Gen seed size workers) path by n = by.1.0
alone_failed (Env lock machine extras) path by n = n
alone_failed (Export lock extras) path by n = n
alone_failed (Marker file) path by n = n
alone_failed (Check project folder derivation) path by n = n
alone_failed (Verify project folder lock) path by n = n

-- a refusal is printed
refusal_printed : ExportsAreExact → (words : List (List ℕ)) (q : Asked) (before now : FilesSeen) (e : Refusal) (o : Output) → view q ≡ question words
    → ByReads now.reads (λ m. Answers answer_view (Err e) (command (view q) m)) → Cause {T = Answer} before.faults now.faults now.last_failed (Err e)
    → IsByWords q (Err e) → IsRefusalOutput e (output_view o) → IsOutput words before now o.status o.text.items
unfolding IsRead
refusal_printed law words q before now (Malformed file place) o same told cause by is =
    refused_printed law words q before now (Malformed file place) _ o same refl (λ m e. (told m e).0) cause by three_plain is
refusal_printed law words q before now (Limit name number) o same told cause by is =
    refused_printed law words q before now (Limit name number) _ o same refl (λ m e. (told m e).0) cause by four_plain is
refusal_printed law words q before now (ReadFault path) o same told cause by is =
    let status_is : o.status ≡ 5 = ap (λ x. x.0) is in
    let text_is : o.text.items ≡ read_fault_text (string_bytes path) = ap (λ x. x.1) is in
    record {
      range = ((λ e. absurd (omega (arith, e, status_is))), (λ e. absurd (omega (arith, e, status_is))));
      answer = λ unfailed. absurd (unfailed status_is);
      no_file = λ n. absurd (alone_failed q path by (subst NeedsNoFile (sym same) n));
      exports = λ zero. absurd (omega (arith, zero, status_is));
      usage = λ two. absurd (omega (arith, two, status_is));
      fault = λ _. cause.0;
      fault_text = λ _ p last. text_is ∙ ap read_fault_text (cause.2 p last);
      fault_path = λ _ m e p last. subst (λ k. (command k m).reads p) same (subst (λ x. (command (view q) m).reads x) (cause.2 p last) (told m e).1);
      no_fault = λ unfailed. absurd (unfailed status_is);
    }
refusal_printed law words q before now NoMemory o same told cause by is = absurd is

pub answered : {E : Type 0} → ExportsAreExact → (words : List (List ℕ)) (q : Asked) (before now : FilesSeen) (a : Answer) (out : Result Output E) → view q ≡ question words
    → ByReads now.reads (λ m. Answers answer_view (Ok a) (command (view q) m)) → now.faults ≡ before.faults → IsByWords q (Ok a)
    → IfOk out (λ o. output_view o ≡ output_of (answer_view a)) → IfOk out (λ o. IsOutput words before now o.status o.text.items)
answered law words q before now a out same told still by h = if_ok out _ _ (λ o. answer_output law words q before now a o same told still by) h

pub refused : {E : Type 0} → ExportsAreExact → (words : List (List ℕ)) (q : Asked) (before now : FilesSeen) (e : Refusal) (out : Result Output E) → view q ≡ question words
    → ByReads now.reads (λ m. Answers answer_view (Err e) (command (view q) m)) → Cause {T = Answer} before.faults now.faults now.last_failed (Err e)
    → IsByWords q (Err e) → IfOk out (λ o. IsRefusalOutput e (output_view o)) → IfOk out (λ o. IsOutput words before now o.status o.text.items)
refused law words q before now e out same told cause by h = if_ok out _ _ (λ o. refusal_printed law words q before now e o same told cause by) h
