-- Edges that are followed, one after another.
use Rattle.std.proofs.Common.{◌≡◌, ◌⊎◌, ◌<◌, ℕ, true, false, List, [], ◌∷◌, ◌++◌, length, Contains, refl, sym, ap, ◌∙◌, subst, inl, inr, ⊎_elim}
use Rattle.std.proofs.lemmas.Option.{slice_get_within}
use Rattle.ul_base.proofs.ForCallers.{none_in}
use Rattle.ul_comparison.specs.Worlds.{WorldFields}
use Rattle.ul_lock.specs.declared.parts.Edge.{Edge}
use Rattle.ul_lock.specs.Walk.{Pick as NodeAt, edge_holds}
use Rattle.ul_lock_nodes.specs.Flags.{is_flagged, LeadsTo}
use Rattle.ul_lock_nodes.specs.Places.{StandsAt}
use Rattle.ul_filter.specs.Met.{IsFollowed, IsMet, IsMore}
use Rattle.ul_lock_nodes.specs.Routes.{Route}
use Rattle.ul_filter.specs.declared.met.Met.{Met}
use Rattle.ul_lock_nodes.proofs.ForCallers.{clash, contains_at, in_more, last_in, stands_in, still_in}

-- ---- what was met

pub more_itself : (m : Met) → IsMore m m
more_itself m = record { long = refl; keeps = λ k h. h; front = λ j k e. e; listed = λ k h. inl h; marked = λ k h. inl h }

pub front_in : (b c : Met) (k : ℕ) → IsMore b c → Contains b.queue.items k → Contains c.queue.items k
front_in b c k y q = let s = stands_in b.queue.items k q in contains_at c.queue.items s.0 k (y.front s.0 k s.1)

pub more_then : (a b c : Met) → IsMore a b → IsMore b c → IsMore a c
more_then a b c x y = record {
  long = y.long ∙ x.long;
  keeps = λ k h. y.keeps k (x.keeps k h);
  front = λ j k e. y.front j k (x.front j k e);
  listed = λ k h. ⊎_elim (λ f. ⊎_elim inl (λ q. inr (front_in b c k y q)) (x.listed k f)) inr (y.listed k h);
  marked = λ k h. ⊎_elim (λ q. ⊎_elim inl (λ f. inr (y.keeps k f)) (x.marked k q)) inr (y.marked k h);
}

-- ---- edges

pub followed_none : (routes : List Route) (w : WorldFields) (m : Met) → IsFollowed routes w [] m m
followed_none routes w m = record { more = more_itself m; only = λ k h. inl h; all = λ p z k s. absurd (none_in z.0 z.1) }

leads_more : (w : WorldFields) (es : List Edge) (e : Edge) (p : NodeAt) → LeadsTo w es p → LeadsTo w (es ++ e ∷ []) p
leads_more w es e p z = (z.0, still_in es e z.0 z.1, z.2, z.3)

-- each edge leads as one of those before, or it is the last
leads_cases : (w : WorldFields) (es : List Edge) (e : Edge) (p : NodeAt) → LeadsTo w (es ++ e ∷ []) p → LeadsTo w es p ⊎ ((edge_holds w e ≡ true) × ((e.target, e.version) ≡ p))
leads_cases w es e p z = ⊎_elim (λ h. inl (z.0, h, z.2, z.3))
    (λ q. inr (ap (edge_holds w) (sym q) ∙ z.2, ap (λ (x : Edge). (x.target, x.version)) (sym q) ∙ z.3)) (in_more es e z.0 z.1)

only_more : (routes : List Route) (w : WorldFields) (es : List Edge) (e : Edge) (a b : Met) → IsFollowed routes w es a b → (k : ℕ) → is_flagged b.flags.items k ≡ true
    → (is_flagged a.flags.items k ≡ true) ⊎ ((p : NodeAt) × StandsAt routes k p × LeadsTo w (es ++ e ∷ []) p)
only_more routes w es e a b f k h = ⊎_elim inl (λ z. inr (z.0, z.1, leads_more w es e z.0 z.2)) (f.only k h)

pub followed_skip : (routes : List Route) (w : WorldFields) (es : List Edge) (e : Edge) (a b : Met) → IsFollowed routes w es a b → edge_holds w e ≡ false → IsFollowed routes w (es ++ e ∷ []) a b
followed_skip routes w es e a b f no_edge = record {
  more = f.more;
  only = only_more routes w es e a b f;
  all = λ p z. ⊎_elim (f.all p) (λ q k s. absurd (clash (edge_holds w e) no_edge q.0)) (leads_cases w es e p z);
}

pub followed_lost : (routes : List Route) (w : WorldFields) (es : List Edge) (e : Edge) (a b : Met) → IsFollowed routes w es a b → ((k : ℕ) → StandsAt routes k (e.target, e.version) → ⊥) → IsFollowed routes w (es ++ e ∷ []) a b
followed_lost routes w es e a b f nowhere = record {
  more = f.more;
  only = only_more routes w es e a b f;
  all = λ p z. ⊎_elim (f.all p) (λ q k s. absurd (nowhere k (subst (StandsAt routes k) (sym q.1) s))) (leads_cases w es e p z);
}

pub followed_met : (routes : List Route) (w : WorldFields) (es : List Edge) (e : Edge) (place : ℕ) (a b c : Met) → IsFollowed routes w es a b → edge_holds w e ≡ true → StandsAt routes place (e.target, e.version)
    → length a.flags.items ≡ length routes → IsMet place b c → IsFollowed routes w (es ++ e ∷ []) a c
followed_met routes w es e place a b c f holds s size m = record {
  more = more_then a b c f.more m.more;
  only = λ k h. ⊎_elim (only_more routes w es e a b f k)
      (λ q. inr ((e.target, e.version), subst (λ x. StandsAt routes x (e.target, e.version)) (sym q) s, (e, last_in es e, holds, refl))) (m.only k h);
  all = λ p z. ⊎_elim (λ q k t. let r = f.all p q k t in (r.0, r.1, m.more.keeps r.0 r.2))
      (λ q k t. (place, subst (StandsAt routes place) q.1 s, m.met (subst (λ n. place < n) (sym (f.more.long ∙ size)) (slice_get_within routes place s.0 s.1)))) (leads_cases w es e p z);
}
