-- Products in a type that is twice as wide.
use Rattle.std.proofs.Common.{◌≡◌, ◌↔◌, ◌+◌, ◌*◌, ℤ, ◌*ℤ◌, nat_eq, of_z, to_z, IsTrue, FitsSigned, refl, rules}
use Rattle.std.specs.Int.{Width}
use Rattle.i_shape_core.specs.Widths.{hbits}
use Rattle.i_shape_core.proofs.Arithmetic.Products.{widened, product-fits}

-- the product of two numbers converted to the wider type
abbrev wider_product : Width → Width → ℤ → ℤ → ℤ
wider_product w W a b = to_z W (of_z W (to_z w (of_z w a))) *ℤ to_z W (of_z W (to_z w (of_z w b)))

product_of_widened : (w W : Width) → hbits W ≡ 2 * hbits w + 1 → (a b : ℤ) → FitsSigned w a → FitsSigned w b → wider_product w W a b ≡ a *ℤ b
product_of_widened w W e a b f g = rw (widened w W e a (to_z w (of_z w a)) f refl, widened w W e b (to_z w (of_z w b)) g refl) refl

-- two numbers that fit test equal exactly if they are
same_told : (W : Width) (a b : ℤ) → FitsSigned W a → FitsSigned W b → IsTrue (nat_eq (of_z W a) (of_z W b)) ↔ (a ≡ b)
same_told W a b f g = search rules

-- two products in the wider type test equal exactly if the products are
pub products_told : (w W : Width) → hbits W ≡ 2 * hbits w + 1 → (a b c d : ℤ) → FitsSigned w a → FitsSigned w b → FitsSigned w c → FitsSigned w d
    → IsTrue (nat_eq (of_z W (wider_product w W a b)) (of_z W (wider_product w W c d))) ↔ (a *ℤ b ≡ c *ℤ d)
products_told w W e a b c d fa fb fc fd =
    rw (product_of_widened w W e a b fa fb, product_of_widened w W e c d fc fd) (same_told W (a *ℤ b) (c *ℤ d) (product-fits w W e a b fa fb) (product-fits w W e c d fc fd))
