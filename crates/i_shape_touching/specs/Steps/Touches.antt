-- The places where rings touch.
use Rattle.std.specs.Prelude.{ℕ, ℤ, List, Contains, map}
use Rattle.std.specs.List.{All}
use Rattle.i_shape_core.specs.Point.{Point}
use Rattle.i_shape_core.specs.IntPoint.{point_of}
use Rattle.i_shape_contacts.specs.Contacts.{IsRingContact}
use Rattle.i_shape_touching.specs.Touching.{IsOnEdge}
use Rattle.i_shape_touching.specs.declared.touches.Touch.{Touch}

-- the two edges are in contact, at the point
pub record IsTouch {I : Type 0} (value : I → ℤ) (offsets : List ℕ) (c : List Point) (t : Touch I) : Type 0 where
  pub contact : IsRingContact offsets c t.contact.first t.contact.second
  pub on_first : IsOnEdge offsets c (point_of value t.point) t.contact.first
  pub on_second : IsOnEdge offsets c (point_of value t.point) t.contact.second

-- the list has a touch for each contact, and nothing else
pub record AreTouches {I : Type 0} (value : I → ℤ) (offsets : List ℕ) (c : List Point) (touches : List (Touch I)) : Type 0 where
  pub each : All (IsTouch value offsets c) touches
  pub all : (i j : ℕ) → IsRingContact offsets c i j → Contains (map (λ t. t.contact) touches) (record { first = i; second = j })
