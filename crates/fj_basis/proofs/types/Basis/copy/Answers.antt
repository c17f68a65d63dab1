use Rattle.std.proofs.Common.{◌≡◌, ◌∙◌, List, sym, ap, subst, length, map, All}
use Rattle.fj_basis.proofs.Copies.{length-same_views, All-same_views}
use Rattle.fj_basis.proofs.types.Basis.copy.Goals as goal

-- The shape of a basis is that of its views.
shape : {A M : Type 0} (items : A → List M) (members members' : List M) (down down' up up' : List A)
    → members' ≡ members → map items down' ≡ map items down → map items up' ≡ map items up
    → (length down ≡ length members) × All (λ row. length (items row) ≡ length up) down × All (λ row. length (items row) ≡ length members) up
    → (length down' ≡ length members') × All (λ row. length (items row) ≡ length up') down' × All (λ row. length (items row) ≡ length members') up'
shape items members members' down down' up up' m d u s = (
  length-same_views items down' down d ∙ s.0 ∙ sym (ap length m),
  subst (λ n. All (λ row. length (items row) ≡ n) down') (sym (length-same_views items up' up u)) (All-same_views (λ row. length row ≡ length up) items down' down d s.1),
  subst (λ n. All (λ row. length (items row) ≡ n) up') (sym (ap length m)) (All-same_views (λ row. length row ≡ length members) items up' up u s.2),
)

pub invariant_of-result : goal.invariant_of-result
invariant_of-result g c =
    shape (λ row. row.items) c.self.inside.members.items c.in_ok-copy_list.field-0.items c.self.inside.down.items c.in_ok-copy_table.field-0.items
    c.self.inside.up.items c.in_ok-copy_table-2.field-0.items
    (c.in_ok-copy_list.ensures.value ∙ c.deref.ensures.value) (c.in_ok-copy_table.ensures ∙ ap (map (λ row. row.items)) c.deref-2.ensures.value)
    (c.in_ok-copy_table-2.ensures ∙ ap (map (λ row. row.items)) c.deref-3.ensures.value) c.self.invariant
