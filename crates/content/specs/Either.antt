-- A content of one of two kinds.
use Rattle.content.specs.declared.mix.Mix.{Mix}
use Rattle.content.specs.declared.mix.Mix.TheVariants.{One, Other}

-- What f says of the one kind, and g of the other.
abbrev pub either : {A B R : Type 0} → (A → R) → (B → R) → Mix A B → R
either f g (One a) = f a
either f g (Other b) = g b

-- A content of the same kind as before, made by f from one of the one kind and by g from one of the other.
abbrev pub fill : {A B C D : Type 0} → (A → C) → (B → D) → Mix A B → Mix C D
fill f g (One a) = One (f a)
fill f g (Other b) = Other (g b)
