-- The question of a resolution, and what its fork answer was found with.
use Rattle.std.proofs.Common.{◌≡◌, ◌∙◌, ℕ, List, ap, sym, subst}
use Rattle.ul_nodes.specs.Plain.{Plain}
use Rattle.ul_tree.specs.Regions.{region_of}
use Rattle.ul_algebra.specs.Spelled.{tree_of}
use Rattle.ul_index.specs.Catalogs.{Packages}
use Rattle.ul_problem.specs.Plain.{Plain as Problem}
use Rattle.ul_region.specs.Problem.{IsProblemOf}
use Rattle.ul_region.specs.Truths.{DiagramMark, PassView, region_at}
use Rattle.ul_prepared.specs.Project.{IsProjectOf}
use Rattle.ul_prepared.specs.declared.prepared.Prepared.{Prepared}
use Rattle.ul_generations.specs.Answers.{Fails, answer_of}
use Rattle.ul_generations.specs.Generations.{too_many}
use Rattle.ul_generations.specs.declared.answers.ForkFault.{ForkFault}
use Rattle.ul_generations.specs.declared.answers.ForkFault.TheVariants.{TooManyForks, NoMemory as NoMemoryToFork}
use Rattle.ul_forks.specs.Forked as forks
use Rattle.ul_forks.specs.Forked.{ForkedMarks, HasRegions, project_name}
use Rattle.ul_forks.specs.Outcome.{IsOutcome, Question, starts_of}
use Rattle.ul_forks.specs.Questions as questions
use Rattle.ul_forks.specs.Questions.{IsQuestion, IsReadyFor}
use Rattle.ul_forks.specs.declared.question as code
use Rattle.ul_inputs.specs.Refusals.{IsRefusalFor}
use Rattle.ul_inputs.specs.Resolutions.{IsResolution, ResolutionFields}
use Rattle.ul_inputs.specs.declared.refusal.Refusal.{Refusal}
use Rattle.ul_inputs.specs.declared.refusal.Refusal.TheVariants.{Malformed, Limit, ReadFault, NoMemory}
use Rattle.ul_commands.specs.Forking.{AreForksOf, HasRounds, IsForkRefusal, IsQuestionOf, IsSharedOf, refused_forks}
use Rattle.ul_commands.specs.Questions.{IsProblemIn, question_of}

-- the first package of the catalog is the project's
first_named : (r : ResolutionFields) → IsResolution r → project_name r.catalog ≡ r.project.package.name
first_named r is = ap project_name is.begins ∙ is.named

module _ (r : ResolutionFields) (q : code.Question.Question) (is : IsResolution r) (of : IsQuestionOf r q) where
  -- what it asks is what the resolution asks
  pub asks : questions.view q ≡ question_of r
  asks =
      ap (λ c. forks.question_of c q.extras.now q.wish.now) of.catalog
      ∙ ap (λ xs. forks.question_of r.catalog xs q.wish.now) of.extras
      ∙ ap (λ w. forks.question_of r.catalog r.project.extras w) of.wish
      ∙ ap (λ n. record { catalog = r.catalog; name = n; extras = r.project.extras; wish = r.wish }) (first_named r is)

  -- it begins with the project
  pub is_question : IsQuestion q
  is_question = record {
    starts = of.starts ∙ ap starts_of (sym asks);
    project = record {
      project = is.first;
      others = is.others;
      first = of.catalog ∙ is.begins;
      release = is.release;
      one = is.one;
      kept = is.usable;
      extras = r.project.extras;
      increasing = is.project.extras;
      are = of.starts ∙ ap (λ n. starts_of (record { catalog = r.catalog; name = n; extras = r.project.extras; wish = r.wish })) (sym is.named);
    };
  }

  -- what all regions share is the resolution's
  pub shared_of : (h : PassView) (p : Prepared) → IsReadyFor h q p → IsSharedOf r h p
  shared_of h p ready = record {
    prepared = ready.prepared;
    catalog = ready.catalog ∙ of.catalog;
    starts = ready.starts ∙ of.starts;
    wish = ready.wish ∙ of.wish;
  }

  module _ (workers : ℕ) (forked : ForkedMarks) (rounds : List (ℕ × ℕ)) (found : forks.IsForked (questions.view q) r.project.region workers forked rounds) where
    in_words : forks.IsForked (question_of r) r.project.region workers forked rounds
    in_words = subst (λ (x : Question). forks.IsForked x r.project.region workers forked rounds) asks found

    -- the fork answer
    pub forks_are : (h : PassView) → HasRegions h forked → AreForksOf r h forked
    forks_are h known = record {
      is_answer = record { counts = in_words.counts; answer = in_words.answer };
      accepted = in_words.accepted;
      known = known;
    }

    -- its rounds
    pub rounds_are : HasRounds r workers forked rounds
    rounds_are = record { counts = in_words.counts; answer = in_words.answer; generations = in_words.generations }

  -- the refusal of a fault
  pub fault_refused : (fault : ForkFault) (e : Refusal) → Fails (IsOutcome (questions.view q)) r.project.region fault
      → IsRefusalFor (refused_forks fault) e → IsForkRefusal r e
  fault_refused fault e fails is_for = by_fault fault e (subst (λ (x : Question). Fails (IsOutcome x) r.project.region fault) asks fails) is_for
    where
      by_fault : (fault : ForkFault) (e : Refusal) → Fails (IsOutcome (question_of r)) r.project.region fault → IsRefusalFor (refused_forks fault) e → IsForkRefusal r e
      by_fault (TooManyForks n) (Malformed file place) h i = (i, (n, record { counts = h.0; answer = h.1 }))
      by_fault (TooManyForks n) (Limit name number) h i = (i, (n, record { counts = h.0; answer = h.1 }))
      by_fault (TooManyForks n) (ReadFault path) h i = (i, (n, record { counts = h.0; answer = h.1 }))
      by_fault (TooManyForks n) NoMemory h i = tt
      by_fault NoMemoryToFork (Malformed file place) h i = absurd (cc)
      by_fault NoMemoryToFork (Limit name number) h i = absurd (cc)
      by_fault NoMemoryToFork (ReadFault path) h i = absurd i
      by_fault NoMemoryToFork NoMemory h i = tt

-- a region's problem, by what all regions of a resolution share
pub problem_here : (r : ResolutionFields) (h : PassView) (p : Prepared) (region : DiagramMark) (problem : Problem) → IsSharedOf r h p
    → IsProblemOf p.catalog.now p.starts.now p.wish.now (region_at region) problem → IsProblemIn r (tree_of region) problem
problem_here r h p region problem of is =
    subst (λ w. IsProblemOf r.catalog (starts_of (question_of r)) w (region_at region) problem) of.wish
    (subst (λ ss. IsProblemOf r.catalog ss p.wish.now (region_at region) problem) of.starts
    (subst (λ c. IsProblemOf c p.starts.now p.wish.now (region_at region) problem) of.catalog is))

-- the catalog that all regions share begins with the project
pub shared_project : (r : ResolutionFields) (h : PassView) (p : Prepared) → IsResolution r → IsSharedOf r h p → IsProjectOf p.catalog.now p.starts.now
shared_project r h p is of = record {
  project = is.first;
  others = is.others;
  first = of.catalog ∙ is.begins;
  release = is.release;
  one = is.one;
  kept = is.usable;
  extras = r.project.extras;
  increasing = is.project.extras;
  are = of.starts ∙ ap (λ n. starts_of (record { catalog = r.catalog; name = n; extras = r.project.extras; wish = r.wish })) (sym is.named);
}
