-- Cancellation in long sums: a term and its negative with 4 to 12 terms between.
use Rattle.std.proofs.Common.{◌≡◌, ap, ◌∙◌}
use Rattle.fj_algebra.specs.Ring.{CommutativeRing}
use Rattle.fj_algebra.proofs.Ring.{ring_laws, add_left_comm, add_neg_3, add_neg_3_end}

module _ {A : Type 0} (R : CommutativeRing A) where
  open R use {add as ◌⊕◌, neg as ⊖◌}

  infixl 60 ◌⊕◌
  infix 80 ⊖◌
  pub add_neg_4 : (x a b c d z : A) → x ⊕ (a ⊕ (b ⊕ (c ⊕ (d ⊕ (⊖ x ⊕ z))))) ≡ a ⊕ (b ⊕ (c ⊕ (d ⊕ (z))))
  add_neg_4 x a b c d z = add_left_comm R x a _ ∙ ap (◌⊕◌ a) (add_neg_3 R x b c d z)

  pub add_neg_4_end : (x a b c d : A) → x ⊕ (a ⊕ (b ⊕ (c ⊕ (d ⊕ (⊖ x))))) ≡ a ⊕ (b ⊕ (c ⊕ (d)))
  add_neg_4_end x a b c d = add_left_comm R x a _ ∙ ap (◌⊕◌ a) (add_neg_3_end R x b c d)

  pub add_neg_5 : (x a b c d e z : A) → x ⊕ (a ⊕ (b ⊕ (c ⊕ (d ⊕ (e ⊕ (⊖ x ⊕ z)))))) ≡ a ⊕ (b ⊕ (c ⊕ (d ⊕ (e ⊕ (z)))))
  add_neg_5 x a b c d e z = add_left_comm R x a _ ∙ ap (◌⊕◌ a) (add_neg_4 x b c d e z)

  pub add_neg_5_end : (x a b c d e : A) → x ⊕ (a ⊕ (b ⊕ (c ⊕ (d ⊕ (e ⊕ (⊖ x)))))) ≡ a ⊕ (b ⊕ (c ⊕ (d ⊕ (e))))
  add_neg_5_end x a b c d e = add_left_comm R x a _ ∙ ap (◌⊕◌ a) (add_neg_4_end x b c d e)

  pub add_neg_6 : (x a b c d e f z : A) → x ⊕ (a ⊕ (b ⊕ (c ⊕ (d ⊕ (e ⊕ (f ⊕ (⊖ x ⊕ z))))))) ≡ a ⊕ (b ⊕ (c ⊕ (d ⊕ (e ⊕ (f ⊕ (z))))))
  add_neg_6 x a b c d e f z = add_left_comm R x a _ ∙ ap (◌⊕◌ a) (add_neg_5 x b c d e f z)

  pub add_neg_6_end : (x a b c d e f : A) → x ⊕ (a ⊕ (b ⊕ (c ⊕ (d ⊕ (e ⊕ (f ⊕ (⊖ x))))))) ≡ a ⊕ (b ⊕ (c ⊕ (d ⊕ (e ⊕ (f)))))
  add_neg_6_end x a b c d e f = add_left_comm R x a _ ∙ ap (◌⊕◌ a) (add_neg_5_end x b c d e f)

  pub add_neg_7 : (x a b c d e f g z : A) → x ⊕ (a ⊕ (b ⊕ (c ⊕ (d ⊕ (e ⊕ (f ⊕ (g ⊕ (⊖ x ⊕ z)))))))) ≡ a ⊕ (b ⊕ (c ⊕ (d ⊕ (e ⊕ (f ⊕ (g ⊕ (z)))))))
  add_neg_7 x a b c d e f g z = add_left_comm R x a _ ∙ ap (◌⊕◌ a) (add_neg_6 x b c d e f g z)

  pub add_neg_7_end : (x a b c d e f g : A) → x ⊕ (a ⊕ (b ⊕ (c ⊕ (d ⊕ (e ⊕ (f ⊕ (g ⊕ (⊖ x)))))))) ≡ a ⊕ (b ⊕ (c ⊕ (d ⊕ (e ⊕ (f ⊕ (g))))))
  add_neg_7_end x a b c d e f g = add_left_comm R x a _ ∙ ap (◌⊕◌ a) (add_neg_6_end x b c d e f g)

  pub add_neg_8 : (x a b c d e f g h z : A) → x ⊕ (a ⊕ (b ⊕ (c ⊕ (d ⊕ (e ⊕ (f ⊕ (g ⊕ (h ⊕ (⊖ x ⊕ z))))))))) ≡ a ⊕ (b ⊕ (c ⊕ (d ⊕ (e ⊕ (f ⊕ (g ⊕ (h ⊕ (z))))))))
  add_neg_8 x a b c d e f g h z = add_left_comm R x a _ ∙ ap (◌⊕◌ a) (add_neg_7 x b c d e f g h z)

  pub add_neg_8_end : (x a b c d e f g h : A) → x ⊕ (a ⊕ (b ⊕ (c ⊕ (d ⊕ (e ⊕ (f ⊕ (g ⊕ (h ⊕ (⊖ x))))))))) ≡ a ⊕ (b ⊕ (c ⊕ (d ⊕ (e ⊕ (f ⊕ (g ⊕ (h)))))))
  add_neg_8_end x a b c d e f g h = add_left_comm R x a _ ∙ ap (◌⊕◌ a) (add_neg_7_end x b c d e f g h)

  pub add_neg_9 : (x a b c d e f g h i z : A) → x ⊕ (a ⊕ (b ⊕ (c ⊕ (d ⊕ (e ⊕ (f ⊕ (g ⊕ (h ⊕ (i ⊕ (⊖ x ⊕ z)))))))))) ≡ a ⊕ (b ⊕ (c ⊕ (d ⊕ (e ⊕ (f ⊕ (g ⊕ (h ⊕ (i ⊕ (z)))))))))
  add_neg_9 x a b c d e f g h i z = add_left_comm R x a _ ∙ ap (◌⊕◌ a) (add_neg_8 x b c d e f g h i z)

  pub add_neg_9_end : (x a b c d e f g h i : A) → x ⊕ (a ⊕ (b ⊕ (c ⊕ (d ⊕ (e ⊕ (f ⊕ (g ⊕ (h ⊕ (i ⊕ (⊖ x)))))))))) ≡ a ⊕ (b ⊕ (c ⊕ (d ⊕ (e ⊕ (f ⊕ (g ⊕ (h ⊕ (i))))))))
  add_neg_9_end x a b c d e f g h i = add_left_comm R x a _ ∙ ap (◌⊕◌ a) (add_neg_8_end x b c d e f g h i)

  pub add_neg_10 : (x a b c d e f g h i j z : A) → x ⊕ (a ⊕ (b ⊕ (c ⊕ (d ⊕ (e ⊕ (f ⊕ (g ⊕ (h ⊕ (i ⊕ (j ⊕ (⊖ x ⊕ z))))))))))) ≡ a ⊕ (b ⊕ (c ⊕ (d ⊕ (e ⊕ (f ⊕ (g ⊕ (h ⊕ (i ⊕ (j ⊕ (z))))))))))
  add_neg_10 x a b c d e f g h i j z = add_left_comm R x a _ ∙ ap (◌⊕◌ a) (add_neg_9 x b c d e f g h i j z)

  pub add_neg_10_end : (x a b c d e f g h i j : A) → x ⊕ (a ⊕ (b ⊕ (c ⊕ (d ⊕ (e ⊕ (f ⊕ (g ⊕ (h ⊕ (i ⊕ (j ⊕ (⊖ x))))))))))) ≡ a ⊕ (b ⊕ (c ⊕ (d ⊕ (e ⊕ (f ⊕ (g ⊕ (h ⊕ (i ⊕ (j)))))))))
  add_neg_10_end x a b c d e f g h i j = add_left_comm R x a _ ∙ ap (◌⊕◌ a) (add_neg_9_end x b c d e f g h i j)

  pub add_neg_11 : (x a b c d e f g h i j k z : A) → x ⊕ (a ⊕ (b ⊕ (c ⊕ (d ⊕ (e ⊕ (f ⊕ (g ⊕ (h ⊕ (i ⊕ (j ⊕ (k ⊕ (⊖ x ⊕ z)))))))))))) ≡ a ⊕ (b ⊕ (c ⊕ (d ⊕ (e ⊕ (f ⊕ (g ⊕ (h ⊕ (i ⊕ (j ⊕ (k ⊕ (z)))))))))))
  add_neg_11 x a b c d e f g h i j k z = add_left_comm R x a _ ∙ ap (◌⊕◌ a) (add_neg_10 x b c d e f g h i j k z)

  pub add_neg_11_end : (x a b c d e f g h i j k : A) → x ⊕ (a ⊕ (b ⊕ (c ⊕ (d ⊕ (e ⊕ (f ⊕ (g ⊕ (h ⊕ (i ⊕ (j ⊕ (k ⊕ (⊖ x)))))))))))) ≡ a ⊕ (b ⊕ (c ⊕ (d ⊕ (e ⊕ (f ⊕ (g ⊕ (h ⊕ (i ⊕ (j ⊕ (k))))))))))
  add_neg_11_end x a b c d e f g h i j k = add_left_comm R x a _ ∙ ap (◌⊕◌ a) (add_neg_10_end x b c d e f g h i j k)

  pub add_neg_12 : (x a b c d e f g h i j k l z : A) → x ⊕ (a ⊕ (b ⊕ (c ⊕ (d ⊕ (e ⊕ (f ⊕ (g ⊕ (h ⊕ (i ⊕ (j ⊕ (k ⊕ (l ⊕ (⊖ x ⊕ z))))))))))))) ≡ a ⊕ (b ⊕ (c ⊕ (d ⊕ (e ⊕ (f ⊕ (g ⊕ (h ⊕ (i ⊕ (j ⊕ (k ⊕ (l ⊕ (z))))))))))))
  add_neg_12 x a b c d e f g h i j k l z = add_left_comm R x a _ ∙ ap (◌⊕◌ a) (add_neg_11 x b c d e f g h i j k l z)

  pub add_neg_12_end : (x a b c d e f g h i j k l : A) → x ⊕ (a ⊕ (b ⊕ (c ⊕ (d ⊕ (e ⊕ (f ⊕ (g ⊕ (h ⊕ (i ⊕ (j ⊕ (k ⊕ (l ⊕ (⊖ x))))))))))))) ≡ a ⊕ (b ⊕ (c ⊕ (d ⊕ (e ⊕ (f ⊕ (g ⊕ (h ⊕ (i ⊕ (j ⊕ (k ⊕ (l)))))))))))
  add_neg_12_end x a b c d e f g h i j k l = add_left_comm R x a _ ∙ ap (◌⊕◌ a) (add_neg_11_end x b c d e f g h i j k l)

-- What `ring_laws` proves, also where a term stands up to twelve terms before its negative. `simp` takes more time with it.
pub ruleset wide_ring_laws = (ring_laws, add_neg_4, add_neg_4_end, add_neg_5, add_neg_5_end, add_neg_6, add_neg_6_end, add_neg_7, add_neg_7_end, add_neg_8, add_neg_8_end, add_neg_9, add_neg_9_end, add_neg_10, add_neg_10_end, add_neg_11, add_neg_11_end, add_neg_12, add_neg_12_end)
