use Rattle.std.proofs.Common.{subst}
use Rattle.std.proofs.lemmas.Bool.{false≢true}
use Rattle.ul_ranges.specs.Forms.{AreForms, AreSame}
use Rattle.ul_ranges.specs.declared.forms.Form.{Form}
use Rattle.ul_ranges.proofs.FormTests.{words_same, few_same, many_same, few_differ, many_differ}
use Rattle.ul_ranges.proofs.form_tests.same.Goals as goal

pub returns-in-Word-Word : goal.returns-in-Word-Word
returns-in-Word-Word c =
    rw (c.in-Word-Word.is-0, c.in-Word-Word.is-1)
    (words_same _ _ c.in-Word-Word.x c.in-Word-Word.y (rw c.in-Word-Word.is-0 at c.requires.left) (rw c.in-Word-Word.is-1 at c.requires.right))

pub returns-in-Few-Few : goal.returns-in-Few-Few
returns-in-Few-Few c =
    rw (c.in-Few-Few.is-0, c.in-Few-Few.is-1) (few_same c.in-Few-Few.a c.in-Few-Few.b c.eq.result c.eq.ensures)

pub returns-in-Many-Many : goal.returns-in-Many-Many
returns-in-Many-Many c =
    rw (c.in-Many-Many.is-0, c.in-Many-Many.is-1)
    (many_same _ _ c.in-Many-Many.xs c.in-Many-Many.ys c.eq-in-Many-Many.result (rw (c.in-Many-Many.is-0, c.in-Many-Many.is-1) at c.requires)
    (rw (c.as_slice.ensures, c.as_slice-in-Many-Many.ensures) at c.eq-in-Many-Many.ensures))

pub returns-in_default-2 : goal.returns-in_default-2
returns-in_default-2 c = (
  λ e. absurd (false≢true e),
  λ s. absurd (let d = few_differ _ c.in_default.field-1-0 c.args.theirs.now (subst (λ (f : Form). AreForms f c.args.theirs.now) c.in_default.is-0 c.requires)
      (subst (λ (f : Form). AreSame f c.args.theirs.now) c.in_default.is-0 s) in c.in_default.not-Few-1 d.0 d.1 d.2),
)

pub returns-in_default-3 : goal.returns-in_default-3
returns-in_default-3 c = (
  λ e. absurd (false≢true e),
  λ s. absurd (let d = many_differ _ c.in_default.field-1-0 c.args.theirs.now (subst (λ (f : Form). AreForms f c.args.theirs.now) c.in_default.is-0 c.requires)
      (subst (λ (f : Form). AreSame f c.args.theirs.now) c.in_default.is-0 s) in c.in_default.not-Many-1 d.0 d.1 d.2),
)
