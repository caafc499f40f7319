use Rattle.std.proofs.Common.{◌-ℤ◌}
use Rattle.i_shape_core.proofs.Arithmetic.Coordinates.{safe-difference}
use Rattle.i_shape_core.proofs.Arithmetic.Products.{product-fits}
use Rattle.i_shape_core.proofs.laws.safe_differences_fit.Goals as goal

pub returns-clause-products : goal.returns-clause-products
returns-clause-products g c a b d e sa sb sd se =
    let number = g.met.I.IntNumber in
    let apart = safe-difference g.I.IntNumber.width number.some_bits number.bits_split in
    product-fits g.I.IntNumber.width g.I.Wide.WideIntNumber.width number.wide_bits (a -ℤ b) (d -ℤ e) (apart a b sa sb) (apart d e sd se)
