-- Where a core holds throughout its region, no selection serves a single world of it: its places would serve the problem with
-- the core's needs alone.
use Rattle.std.proofs.Common.{◌≡◌, ◌∙◌, ℕ, zero, suc, List, [], ◌∷◌, Bool, true, Option, Some, Contains, refl, sym, ap, subst, slice_get, get_or}
use Rattle.std.proofs.lemmas.Option.{none-some, same_Some}
use Rattle.ul_base.specs.declared.node.Node.{Node}
use Rattle.ul_version.specs.Fields.{Fields}
use Rattle.ul_specifier.specs.Meaning.{meets_list}
use Rattle.ul_comparison.specs.Worlds.{WorldFields, IsWorld}
use Rattle.ul_problem.specs.Terms.{Selection as Places, is_among}
use Rattle.ul_problem.specs.Plain.{Plain, node_at, needs_in}
use Rattle.ul_problem.specs.declared.problem.Need.{Need as PlaceNeed}
use Rattle.ul_problem.specs.declared.problem.NodeFacts.{NodeFacts}
use Rattle.ul_requirement.specs.Fields.{WishFields}
use Rattle.ul_requirement.specs.Truth.{applies_at}
use Rattle.ul_requirement.specs.declared.wish.Strategy.{Strategy}
use Rattle.ul_requirement.specs.declared.wish.Strategy.TheVariants.{Deep}
use Rattle.ul_index.specs.Applied.{IsFirm}
use Rattle.ul_index.specs.Catalogs.{Packages, requirements, is_fit}
use Rattle.ul_index.specs.Regions.{Region, Somewhere}
use Rattle.ul_index.specs.Serves.{Selection, Suits, choice_of}
use Rattle.ul_blame.specs.Laws.{CoreRefuses}
use Rattle.ul_blame.specs.Serving.{ServesWith}
use Rattle.ul_blame.proofs.ForCallers.{serves_bare}
use Rattle.ul_blame.specs.declared.needs.CoreNeed.{CoreNeed}
use Rattle.ul_region.specs.Best.{Need}
use Rattle.ul_region.specs.Problem.{IsNeedAt, AreNeedsAt, IsProblemOf}
use Rattle.ul_region.specs.Naming.{Matches}
use Rattle.ul_region.proofs.ForCallers.{matching, picked_at, stands, within_size, rooted, fit_at, base_at, met}
use Rattle.ul_split.specs.CoreSplit.{IsAskedBy, HoldsThroughout}
use Rattle.ul_split.specs.CoreLaws.{NoneAtWorlds}
use Rattle.ul_split.specs.Worlds.{ServesAt}
use Rattle.ul_split.proofs.Origins.{HasOrigin, comes_counts, has_origin}

-- the need at a place says the need at this place
said_at : (p : Plain) (ks : List PlaceNeed) (ts : List Need) (i : ℕ) (k : PlaceNeed) → AreNeedsAt p ks ts → slice_get ks i ≡ Some k → (t : Need) × (slice_get ts i ≡ Some t) × IsNeedAt p k t
said_at p [] ts i k h e = absurd (none-some k e)
said_at p (j ∷ js) [] i k h e = absurd h
said_at p (j ∷ js) (t ∷ ts) zero k h e = (t, refl, subst (λ (x : PlaceNeed). IsNeedAt p x t) (same_Some j k e) h.0)
said_at p (j ∷ js) (t ∷ ts) (suc i) k h e = said_at p js ts i k h.1 e

suits_deep : (strategy : Strategy) (R : Region) (f : WorldFields → Bool) → strategy ≡ Deep → Somewhere R f → Suits strategy R f
suits_deep strategy R f deep h = subst (λ (x : Strategy). Suits x R f) (sym deep) h

module _ (c : Packages) (starts : List Node) (wish : WishFields) (R : Region) (p : Plain) (σ : Places) (s : Selection) (w : WorldFields)
    (deep : wish.strategy ≡ Deep) (is : IsProblemOf c starts wish R p) (m : Matches p σ s) (world : IsWorld w) (inside : R w ≡ true) (h : ServesAt c starts w s) where
  -- a need that comes from a requirement that is true at the world
  met_from : (n : Node) (x : Fields) (need : PlaceNeed) (t : Need) (i : ℕ) (o : HasOrigin (IsFirm (requirements c n.name x) R n) (requirements c n.name x) i t) → IsNeedAt p need t → choice_of s n ≡ Some x
      → applies_at o.requirement n w ≡ true → is_among (σ need.node) need.permitted ≡ true
  met_from n x need t i o g e holds =
      let firm = comes_counts (IsFirm (requirements c n.name x) R n) (requirements c n.name x) i o.requirement o.from in
      let y = h.needs_in n x o.requirement o.target e (record { listed = firm.applied.listed; holds = holds }) o.aimed in
      met c starts wish R p σ s is m need t g y.0 (ap (λ (a : Need). choice_of s a.node) o.is ∙ y.1) (ap (λ (a : Need). meets_list a.specifiers y.0) o.is ∙ y.2)

  module _ (core : List CoreNeed) (throughout : HoldsThroughout c R p core) where
    core_met : (k : CoreNeed) (need : PlaceNeed) (f : NodeFacts) → Contains core k → node_at p k.node ≡ Some f → σ k.node ≡ Some k.version → slice_get (get_or f.needs k.version []) k.place ≡ Some need
        → is_among (σ need.node) need.permitted ≡ true
    core_met k need f i at e row =
        let t = picked_at c starts wish R p σ s is m k.node k.version f at e in
        let here = stands c starts wish R p σ s is m k.node k.version f (choice_of s f.node) e t in
        let needs = (is.facts k.node f at).needs k.version t.x here in
        let said = said_at p (get_or f.needs k.version []) needs.needs k.place need needs.at row in
        let o = has_origin (IsFirm (requirements c f.node.name t.x) R f.node) (requirements c f.node.name t.x) needs.are.firm k.place said.0 needs.are.kept
        (subst (λ (l : List Need). slice_get l k.place ≡ Some said.0) needs.are.are said.1) in
        let asked : IsAskedBy c R p k f.node o.requirement = record { facts = f; at = at; node = refl; version = t.x; stands = here; from = o.from } in
        met_from f.node t.x need said.0 k.place o said.2 t.named (throughout k f.node o.requirement i asked w world inside)

    pub serves_with : ServesWith p core σ
    serves_with = record {
      serves = serves_bare p σ
          (within_size c starts wish R p σ s is m)
          (rooted c starts wish R p σ s is m h.starts_in)
          (fit_at c starts wish R p σ s is m (λ n x e. suits_deep wish.strategy R (is_fit c n.name x) deep (w, world, inside, h.fit_in n x e)))
          (base_at c starts wish R p σ s is m h.base_in);
      meets = λ k i need at e. let f = m.within k.node k.version e in
          core_met k need f.0 i f.1 e (subst (λ (o : Option NodeFacts). slice_get (needs_in o k.version) k.place ≡ Some need) f.1 at);
    }

pub none_at_worlds : CoreRefuses → NoneAtWorlds
none_at_worlds refuses c starts wish R p core deep is a throughout w world inside s h =
    let found = matching c starts wish R p s is h.eligible_in in
    refuses p core a found.0 (serves_with c starts wish R p found.0 s w deep is found.1 world inside h core throughout)
