-- The approximations of one level of any filter: of each, what its own function leaves. Looks into no filter.
use Rattle.base_samples.proofs.IntegerLaws.{width-1, width-2, width-4}
use Rattle.filter_cdf53i.proofs.Ready as integer
use Rattle.levels_filter.specs.declared.filter.Filter.TheVariants.{Cdf53I8, Cdf53I16, Cdf53I32}
use Rattle.levels_filter.proofs.Filters.{low-lent}
use Rattle.levels_filter.proofs.filter.approximate.Goals as goal

pub approximate-requires : goal.approximate-requires
approximate-requires c = let fits = integer.ready-low width-1 (low-lent _ Cdf53I8 c.in-Cdf53I8.is c.requires) in record { input = fits.0; holds = fits.1 }

pub approximate-requires-in-Cdf53I16 : goal.approximate-requires-in-Cdf53I16
approximate-requires-in-Cdf53I16 c = let fits = integer.ready-low width-2 (low-lent _ Cdf53I16 c.in-Cdf53I16.is c.requires) in record { input = fits.0; holds = fits.1 }

pub approximate-requires-in-Cdf53I32 : goal.approximate-requires-in-Cdf53I32
approximate-requires-in-Cdf53I32 c = let fits = integer.ready-low width-4 (low-lent _ Cdf53I32 c.in-Cdf53I32.is c.requires) in record { input = fits.0; holds = fits.1 }
