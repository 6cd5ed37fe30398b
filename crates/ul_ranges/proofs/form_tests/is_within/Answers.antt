use Rattle.std.proofs.Common.{subst}
use Rattle.std.proofs.lemmas.Bool.{false≢true}
use Rattle.ul_ranges.specs.Forms.{AreForms, AreWithin}
use Rattle.ul_ranges.specs.declared.forms.Form.{Form}
use Rattle.ul_ranges.specs.declared.forms.Form.TheVariants.{Many}
use Rattle.ul_ranges.proofs.FormMaking.{are_level}
use Rattle.ul_ranges.proofs.FormTests.{words_within, many_within, many_without}
use Rattle.ul_ranges.proofs.form_tests.is_within.Goals as goal

pub are_clear-requires : goal.are_clear-requires
are_clear-requires c =
    rw (c.as_slice.ensures, c.as_slice-in-Many-Many.ensures)
    (are_level (Many _ c.in-Many-Many.xs) (Many _ c.in-Many-Many.ys) (rw (c.in-Many-Many.is-0, c.in-Many-Many.is-1) at c.requires))

pub returns-in-Word-Word : goal.returns-in-Word-Word
returns-in-Word-Word c =
    rw (c.in-Word-Word.is-0, c.in-Word-Word.is-1)
    (words_within _ _ c.in-Word-Word.x c.in-Word-Word.y (rw c.in-Word-Word.is-0 at c.requires.left) (rw c.in-Word-Word.is-1 at c.requires.right))

pub returns-in-Many-Many : goal.returns-in-Many-Many
returns-in-Many-Many c =
    rw (c.in-Many-Many.is-0, c.in-Many-Many.is-1)
    (many_within _ _ c.in-Many-Many.xs c.in-Many-Many.ys c.are_clear.result (rw (c.in-Many-Many.is-0, c.in-Many-Many.is-1) at c.requires)
    (rw (c.as_slice.ensures, c.as_slice-in-Many-Many.ensures) at c.are_clear.ensures))

pub returns-in_default-2 : goal.returns-in_default-2
returns-in_default-2 c = (
  λ e. absurd (false≢true e),
  λ s. absurd (let d = many_without _ c.in_default.field-1-0 c.args.theirs.now (subst (λ (f : Form). AreForms f c.args.theirs.now) c.in_default.is-0 c.requires)
      (subst (λ (f : Form). AreWithin f c.args.theirs.now) c.in_default.is-0 s) in c.in_default.not-Many-1 d.0 d.1 d.2),
)
