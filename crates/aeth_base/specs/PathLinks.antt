-- How a path lies in memory: its links, and link 0 behind them.
use Rattle.std.proofs.Common.{◌≡◌, ◌≤◌, ◌-◌, ◌++◌, ℕ, List, length, take, drop, replicate, arith}
use Rattle.std.proofs.Common.{length-take, take-append-drop}
use Rattle.aeth_base.specs.declared.{ids.LinkId.LinkId, path.Path.TheInside.Inside}
use Rattle.aeth_base.specs.Limits.{max_path_links}

-- What stands behind the links of a path.
abbrev pub filler : LinkId
filler = record { 0 = 0 }

-- Some links, with the filler behind them.
pub record IsFilled (links : List LinkId) (len : ℕ) : Type 0 where
  pub size : length links ≡ max_path_links
  pub within : len ≤ max_path_links
  pub rest : drop len links ≡ replicate (max_path_links - len) filler

-- A path in memory, from its links.
abbrev pub inside_of : List LinkId → Inside
inside_of path = record {
  links = path ++ replicate (max_path_links - length path) filler;
  len = length path;
}

-- A path in memory is made again from its links.
pub inside_of-view : (a : Inside) → IsFilled a.links a.len → inside_of (take a.len a.links) ≡ a
inside_of-view a is_filled =
    let size = is_filled.size in
    let within = is_filled.within in
    let len_is : length (take a.len a.links) ≡ a.len = omega (arith, length-take a.len a.links) in
    let links_are : take a.len a.links ++ replicate (max_path_links - a.len) filler ≡ a.links =
    rw (← is_filled.rest) (take-append-drop a.len a.links) in
    rw (len_is, links_are)
