-- The steps and the set of factors as the code holds them, over the kind of float, and which of document 01's they are.
use Rattle.std.specs.Prelude.{Float}
use Rattle.filter_floats.specs.declared.steps.Step as code
use Rattle.filter_floats.specs.declared.steps.Step.TheVariants.{Odds, Evens, Scale}
use Rattle.filter_floats.specs.declared.steps.Factors.{Factors}
use Rattle.filter_floats.specs.Steps.{Step, oddly, evenly, scaling}
use Rattle.filter_floats.specs.Filters.{Set}

-- v is what a float of the code stands for
abbrev pub kind_of : {A : Type 0} → (A → Float) → code.Step A → Step
kind_of v (Odds c) = oddly (v c)
kind_of v (Evens c) = evenly (v c)
kind_of v (Scale p q) = scaling (v p) (v q)

abbrev pub set_of : {A : Type 0} → (A → Float) → Factors A → Set
set_of v t = record { alpha = v t.alpha; beta = v t.beta; gamma = v t.gamma; delta = v t.delta; k = v t.k; invk = v t.invk }
