-- What a run gives to the host, in three lists: the strips' numbers, how many numbers each channel has got, and the marks of the numbers.
use Rattle.std.specs.Prelude.{List, ℕ, suc, ◌+◌, ℤ, pos, get_or, set, replicate}
use Rattle.run_changes.specs.declared.Outputs.{Outputs}

abbrev pub outputs_of : List ℤ → List ℕ → List ℕ → Outputs
outputs_of n c m = record { numbers = n; counts = c; marks = m }

-- nothing is given
abbrev pub no_outputs : Outputs
no_outputs = outputs_of (replicate 1024 (pos 0)) (replicate 8 0) (replicate 1024 0)

-- one more number with its mark of the p-th output channel, whose strip begins at `strip`
abbrev pub number_put : ℕ → ℕ → ℤ → ℕ → Outputs → Outputs
number_put p strip x m o =
    let i = strip + get_or o.counts p 0 in
    outputs_of (set o.numbers i x) (set o.counts p (suc (get_or o.counts p 0))) (set o.marks i m)
