-- A step's own function makes the state behind its line.
use Rattle.std.proofs.Common.{Bool, true, false, Option, Some, None, Result, Ok, Err, IfOk, ◌≡◌, ◌∙◌, ap, sym, subst}
use Rattle.std.proofs.lemmas.Bool.{cond-true, cond-false}
use Rattle.ul_lock_read.specs.declared.states.State.{State}
use Rattle.ul_lock_read.specs.Automaton.{may, step}
use Rattle.ul_lock_lines.specs.declared.lines.Line.{Line}

-- the state that was made, where the test holds
pub follows : (test b : Bool) (made state : State) → test ≡ true → test ≡ b → made ≡ state → Some made ≡ may b state
follows test b made state holds is e = ap (λ (s : State). Some s) e ∙ sym (cond-true b (Some state) None (sym is ∙ holds))

-- no state, where the test fails
pub refuses : (test b : Bool) (found : Option State) (state : State) → test ≡ false → test ≡ b → found ≡ None → found ≡ may b state
refuses test b found state fails is e = e ∙ sym (cond-false b (Some state) None (sym is ∙ fails))

-- a value that was made is what its maker promises
pub made_is : {A E : Type 0} (made : Result A E) (value promised : A) → IfOk made (λ v. v ≡ promised) → made ≡ Ok value → value ≡ promised
made_is (Ok v) value promised p e = let q : v ≡ value = cc in sym q ∙ p
made_is (Err f) value promised p e = absurd cc

-- what is found behind a state that is known
pub behind_known : (state spelt : State) (line : Line) (found : Option State) → spelt ≡ state → found ≡ step spelt line → found ≡ step state line
behind_known state spelt line found is e = e ∙ ap (λ (s : State). step s line) is

-- the same, where memory may run out
pub made_behind_known : {E : Type 0} (state spelt : State) (line : Line) (made : Result (Option State) E) → spelt ≡ state → IfOk made (λ found. found ≡ step spelt line) → IfOk made (λ found. found ≡ step state line)
made_behind_known state spelt line made is p = subst (λ (s : State). IfOk made (λ found. found ≡ step s line)) is p
