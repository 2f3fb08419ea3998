use Rattle.std.proofs.Common.{length, arith}
use Rattle.aeth_chip.{specs.declared.node.Node.TheVariants.Ni, proofs.JoinedLaws.joins-length}
use Rattle.aeth_chip.proofs.laws.admissible_paths.Goals as goal

pub returns : goal.returns
returns c = record {
  shortest = λ links detour a b path is_path distance fits. record {
    is_path = is_path;
    fits = fits;
    least = length path;
    distance = distance;
    near = omega arith;
  };
  links = λ links detour a b path admissible.
      let path_is = admissible.is_path in
      let one_more = joins-length links (Ni a) path_is.routers (Ni b) path path_is.joins in
      let some = path_is.some in
      (omega arith, admissible.fits);
}
