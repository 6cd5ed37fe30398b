-- What is answered to a fork answer, or in the place of one that wasn't found.
use Rattle.std.proofs.Common.{◌≡◌, ℕ, List, Vec, Global, map, Result, Ok, Err, refl}
use Rattle.ul_generations.specs.declared.answers.Forked.TheVariants.{Leaves}
use Rattle.ul_generations.specs.Generations.{leaves_are, too_many}
use Rattle.ul_region.specs.Truths.{PassView}
use Rattle.ul_merge.specs.Views.{ForkLeaf}
use Rattle.ul_inputs.specs.Inputs.{Said, only}
use Rattle.ul_inputs.specs.Refusals.{Answers}
use Rattle.ul_inputs.specs.Resolutions.{ResolutionFields}
use Rattle.ul_inputs.specs.declared.refusal.Refusal.{Refusal}
use Rattle.ul_inputs.specs.declared.refusal.Refusal.TheVariants.{Malformed, Limit, ReadFault, NoMemory}
use Rattle.ul_inputs.proofs.ForCallers.{refused_by}
use Rattle.ul_answers.specs.Answer as answer
use Rattle.ul_answers.specs.Views.{view}
use Rattle.ul_answers.specs.declared.answer.Answer.{Answer}
use Rattle.ul_commands.specs.Forking.{AreForksOf, IsForkRefusal}
use Rattle.ul_commands.specs.Locking.{IsLockAnswer}
use Rattle.ul_commands.specs.Questions.{IsForked, too_many_forks}
use Rattle.ul_commands.specs.Reasons.{IsWhyAnswer}
use Rattle.ul_commands.proofs.Mergeable.{tree_leaf}

-- where there is no fork answer, the refusal is an answer of those to too many forks
too_many_answer : (r : ResolutionFields) (e : Refusal) (said : Said answer.Answer)
    → ((count : ℕ) → IsForked r (too_many count) → said.gives (Err too_many_forks)) → IsForkRefusal r e → Answers {T = Answer} view (Err e) said
too_many_answer r (Malformed file place) said gives h = refused_by view too_many_forks (Malformed file place) said h.0 (gives h.1.0 h.1.1)
too_many_answer r (Limit name number) said gives h = refused_by view too_many_forks (Limit name number) said h.0 (gives h.1.0 h.1.1)
too_many_answer r (ReadFault path) said gives h = absurd h.0
too_many_answer r NoMemory said gives h = (tt, tt)

-- the refusal of the forks, as the answer of `lock`
pub lock_refused : (r : ResolutionFields) (e : Refusal) → IsForkRefusal r e → Answers {T = Answer} view (Err e) (only (IsLockAnswer r))
lock_refused r e h = too_many_answer r e (only (IsLockAnswer r)) (λ n forks. record { forked = too_many n; are_forks = forks; locks = refl }) h

-- the refusal of the forks, as the answer of `why`
pub why_refused : (r : ResolutionFields) (e : Refusal) → IsForkRefusal r e → Answers {T = Answer} view (Err e) (only (IsWhyAnswer r))
why_refused r e h = too_many_answer r e (only (IsWhyAnswer r)) (λ n forks. record { forked = too_many n; are_forks = forks; gives = refl }) h

-- where all forks are served, none is refused
pub none_refused_answer : (r : ResolutionFields) (h : PassView) (leaves : Vec ForkLeaf Global) → AreForksOf r h (Leaves leaves)
    → IsWhyAnswer r (Ok answer.none_refused)
none_refused_answer r h leaves forks = record { forked = leaves_are (map tree_leaf leaves.items); are_forks = forks.is_answer; gives = refl }
